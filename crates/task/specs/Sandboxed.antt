-- When a run is sandboxed. (own, after capsicum(4), rights(4), cap_rights_limit(2) and
-- cap_fcntls_limit(2))
use Rattle.std.specs.Prelude.{◌≡◌, ◌++◌, ℕ, true, List, [], ◌∷◌, Option, Some, None, IfSome}
use Rattle.std.specs.List.{slice_get, Contains}
use Rattle.rights.specs.Values.{Place}
use Rattle.rights.specs.Errors.{Cause, CapMode, MissingRight}
use Rattle.rights.specs.Operations.{Operation}
use Rattle.process.specs.State.{ProcessState}
use Rattle.kernel.specs.World.{World, Choice, IsFresh}
use Rattle.kernel.specs.Answers.{Event, Effect, AreEvents}
use Rattle.kernel.specs.Steps.{LineResult, Failed, Programs, Acted, Stepped, step}
use Rattle.kernel.specs.Origins.{caller_of}
use Rattle.kernel.specs.Gains.{GainsNothing}
use Rattle.task.specs.Plans.{Grant, Plan, programs_of_plan}
use Rattle.task.specs.Begins.{first_world}

-- An operation at a place is allowed if a grant lists it whose path the place goes on from, name by name.
pub record Allowed (grants : List Grant) (operation : Operation) (place : Place) : Type 0 where
  pub number : ℕ
  pub grant : Grant
  pub rest : Place
  pub there : slice_get grants number ≡ Some grant
  pub beneath : place ≡ grant.path ++ rest
  pub listed : Contains grant.operations operation

-- the process was made and is in capability mode
abbrev pub IsInMode : Option ProcessState → Type 0
IsInMode None = ⊥
IsInMode (Some s) = s.mode ≡ true

-- Each effect is at a place where the policy allows it.
abbrev pub AreAllowed : List Grant → List Effect → Type 0
AreAllowed grants [] = Unit {0}
AreAllowed grants (f ∷ effects) = Allowed grants f.operation f.place × AreAllowed grants effects

-- neither a missing right nor capability mode is the cause
abbrev pub IsOtherCause : Cause → Type 0
IsOtherCause CapMode = ⊥
IsOtherCause MissingRight = ⊥
IsOtherCause _ = Unit {0}

abbrev pub IsUnrefused : LineResult → Type 0
IsUnrefused (Failed errno cause) = IsOtherCause cause
IsUnrefused _ = Unit {0}

-- One step is safe: what a process that was in capability mode before it does to the tree is allowed; no call is
-- refused for a missing right or by capability mode; and no process leaves the mode, and no descriptor, in a table or on its
-- way in a message, comes from nowhere or has more than what it comes from.
pub record IsSafe (programs : Programs) (grants : List Grant) (w : World) (e : Event) (next : Stepped) : Type 0 where
  pub allowed : IsInMode (slice_get w.processes e.process) → IfSome next.acted (λ (a : Acted). AreAllowed grants a.effects)
  pub unrefused : IfSome next.acted (λ (a : Acted). IsUnrefused a.outcome)
  pub gains : GainsNothing w e.process (caller_of programs w e) next.world

-- Each step of every run of these events from this world is safe, whatever fresh numbers are chosen.
abbrev pub Sandboxed : Programs → List Grant → World → List Event → Type 0
Sandboxed programs grants w [] = Unit {0}
Sandboxed programs grants w (e ∷ events) =
    (choice : Choice)
    → IsFresh w.files choice
    → IsSafe programs grants w e (step programs w e choice) × Sandboxed programs grants (step programs w e choice).world events

-- Every run of the task, for every list of events, is sandboxed.
abbrev pub IsSandboxed : Plan → Type 0
IsSandboxed plan = (events : List Event) → AreEvents events → Sandboxed (programs_of_plan plan) plan.grants (first_world plan) events
