-- Whether a run of a task shows the calls of a record. (own)
use Rattle.std.specs.Prelude.{◌≡◌, nat_eq, ℕ, Bool, true, false, List, [], ◌∷◌, length, Option, Some, None}
use Rattle.std.specs.List.{slice_get}
use Rattle.kernel.specs.World.{World, Choice, IsFresh}
use Rattle.kernel.specs.Answers.{Event}
use Rattle.kernel.specs.Steps.{Acted, step}
use Rattle.records.specs.Calls.{RecordedCalls}
use Rattle.task.specs.Plans.{Plan, programs_of_plan}
use Rattle.task.specs.Begins.{first_world}
use Rattle.simulator.specs.Lines.{line_at}
use Rattle.simulator.specs.Simulations.{IsRun}
use Rattle.follow.specs.Places.{Placing}
use Rattle.follow.specs.Numbers.{ProcessPair}
use Rattle.follow.specs.Outcomes.{seen_at}
use Rattle.follow.specs.Progress.{Setting, MatchProgress, after_skip, after_step, first_progress, setting}

-- A step of the run, with the call that it shows, if it shows one; or a call that is skipped. A call is told by how many that are left stand before it.
pub data Move : Type 0 where
  Steps : (event : Event) (shows : Option ℕ) → Move
  Skips : (entry : ℕ) → Move

pub record Witness : Type 0 where
  pub pairs : List ProcessPair
  pub moves : List Move

-- In every run of these moves from this world, whatever fresh numbers are chosen, it comes out so whether all is shown.
abbrev pub Judged : Setting → World → Option MatchProgress → List Move → Bool → Type 0
Judged g w None moves answer = answer ≡ false
Judged g w (Some s) [] answer = answer ≡ nat_eq (length s.left) 0
Judged g w (Some s) (Steps e shows ∷ moves) answer =
    (choice : Choice)
    → IsFresh w.files choice
    → let next = step (programs_of_plan g.plan) w e choice in
    let seen = seen_at (programs_of_plan g.plan) (slice_get w.processes e.process) (line_at e next.acted).acted (slice_get next.world.processes e.process) in
    Judged g next.world (after_step g s e.process seen shows) moves answer
Judged g w (Some s) (Skips i ∷ moves) answer = Judged g w (after_skip g s w.processes i) moves answer

abbrev pub Judges : Plan → List Placing → RecordedCalls → Witness → Bool → Type 0
Judges plan placings calls witness answer =
    Judged (setting plan placings witness.pairs calls) (first_world plan) (first_progress plan witness.pairs calls) witness.moves answer

-- The moves of the witness are a run of the task that shows the calls of the record.
abbrev pub Shows : Plan → List Placing → RecordedCalls → Witness → Type 0
Shows plan placings calls witness = Judges plan placings calls witness true

-- the events of moves
abbrev pub event_in : Move → List Event
event_in (Steps e shows) = e ∷ []
event_in (Skips i) = []

abbrev pub events_of : List Move → List Event
events_of [] = []
events_of (Steps e shows ∷ moves) = e ∷ events_of moves
events_of (Skips i ∷ moves) = events_of moves

abbrev pub HasRun : Plan → List Event → Type 0
HasRun plan events = (lines : List (Option Acted)) × IsRun plan events lines

-- The task has a run of the witness's events, and each shows the calls.
pub record IsShown (plan : Plan) (placings : List Placing) (calls : RecordedCalls) (witness : Witness) : Type 0 where
  pub run : HasRun plan (events_of witness.moves)
  pub shows : Shows plan placings calls witness
