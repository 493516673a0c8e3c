-- What a step may add to a world: no process leaves capability mode, and no descriptor comes from nowhere.
-- (cap_enter(2), capsicum(4), fork(2), rights(4))
use Rattle.std.specs.Prelude.{◌≡◌, ℕ, true, List, [], ◌∷◌, Option, Some, None}
use Rattle.std.specs.List.{slice_get}
use Rattle.rights.specs.Values.{ProcessNumber}
use Rattle.process.specs.State.{ProcessState}
use Rattle.kernel.specs.World.{World, IsFresh, Choice}
use Rattle.kernel.specs.Answers.{Event}
use Rattle.kernel.specs.Steps.{Programs, step}
use Rattle.fd_table.specs.Descriptions.{IfHeld, EachPassed}
use Rattle.kernel.specs.Origins.{Caller, caller_of, ComesFrom, QueuedFrom}

-- What was there is there still, and in capability mode if it was; a new process is in the mode if the caller is, who has made it.
pub record StaysIn (caller before after : Option ProcessState) : Type 0 where
  pub still : (s : ProcessState) → before ≡ Some s → (t : ProcessState) × (after ≡ Some t) × (s.mode ≡ true → t.mode ≡ true)
  pub new : (t : ProcessState) → before ≡ None → after ≡ Some t → (s : ProcessState) × (caller ≡ Some s) × (s.mode ≡ true → t.mode ≡ true)

-- from a world to the next one, by a step of process p, which makes that call, if any
pub record GainsNothing (w : World) (p : ProcessNumber) (caller : Option Caller) (next : World) : Type 0 where
  pub modes : (q : ℕ) → StaysIn (slice_get w.processes p) (slice_get w.processes q) (slice_get next.processes q)
  pub entries : (q n : ℕ) → IfHeld (ComesFrom w caller q n) (next.files.table q n)
  pub messages : (pair side : ℕ) → EachPassed (QueuedFrom w caller pair side) (next.files.queue pair side)

-- so at each step of every run of these events
abbrev pub NeverGains : Programs → World → List Event → Type 0
NeverGains programs w [] = Unit {0}
NeverGains programs w (e ∷ events) =
    (choice : Choice)
    → IsFresh w.files choice
    → GainsNothing w e.process (caller_of programs w e) (step programs w e choice).world × NeverGains programs (step programs w e choice).world events

-- From any world, well formed or not.
abbrev pub NoRunGains : Type 0
NoRunGains = (programs : Programs) (w : World) (events : List Event) → NeverGains programs w events
