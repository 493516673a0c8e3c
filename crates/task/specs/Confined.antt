-- When a task is confined: whatever processes of its untrusted programs do in capability mode, its processes stay inside the policy.
-- (own, after capsicum(4), rights(4), cap_rights_limit(2) and cap_fcntls_limit(2))
use Rattle.std.specs.Prelude.{◌≡◌, Bool, false, true, List, [], ◌∷◌, Option, Some, None, IfSome}
use Rattle.std.specs.List.{slice_get}
use Rattle.process.specs.State.{ProcessState}
use Rattle.kernel.specs.World.{World, Choice, IsFresh}
use Rattle.kernel.specs.Answers.{Event, IsEvent}
use Rattle.kernel.specs.Steps.{Programs, Acted, Stepped}
use Rattle.kernel.specs.Gains.{GainsNothing}
use Rattle.kernel.specs.Hostile.{Act, IsAct, IsSpoken, caller_as, step_as}
use Rattle.task.specs.Plans.{Grant, Plan, none_marked, programs_of_plan}
use Rattle.task.specs.Limits.{is_plan}
use Rattle.task.specs.Begins.{first_world}
use Rattle.task.specs.Sandboxed.{AreAllowed, IsInMode, IsSandboxed, IsUnrefused}

-- the process isn't of an untrusted program
abbrev pub IsTrusted : Option ProcessState → Type 0
IsTrusted None = Unit {0}
IsTrusted (Some s) = s.marked ≡ false

-- One step is contained: what a process that was in capability mode before it does to the tree is allowed; no call of a trusted
-- program is refused for a missing right or by capability mode; and no process leaves the mode, and no descriptor, in a table or on
-- its way in a message, comes from nowhere or has more than what it comes from.
pub record IsContained (programs : Programs) (grants : List Grant) (w : World) (e : Event) (act : Act) (next : Stepped) : Type 0 where
  pub allowed : IsInMode (slice_get w.processes e.process) → IfSome next.acted (λ (a : Acted). AreAllowed grants a.effects)
  pub unrefused : IsTrusted (slice_get w.processes e.process) → IfSome next.acted (λ (a : Acted). IsUnrefused a.outcome)
  pub gains : GainsNothing w e.process (caller_as programs w e act) next.world

-- Each step of every run of these events from this world is contained, whatever processes of untrusted programs do at them in the
-- mode, and whatever fresh numbers are chosen.
abbrev pub Confined : Programs → List Grant → World → List (Event × Act) → Type 0
Confined programs grants w [] = Unit {0}
Confined programs grants w ((e, act) ∷ events) =
    (choice : Choice)
    → IsFresh w.files choice
    → IsEvent e
    → IsAct programs w e.process act
    → IsContained programs grants w e act (step_as programs w e act choice)
    × Confined programs grants (step_as programs w e act choice).world events

-- what is done is of the task's own language
abbrev pub AreSpoken : Bool → List (Event × Act) → Type 0
AreSpoken wide [] = Unit {0}
AreSpoken wide ((e, act) ∷ events) = IsSpoken wide act × AreSpoken wide events

-- Every run of the task is confined, for every list of events and of what is done at them.
abbrev pub IsConfined : Plan → Type 0
IsConfined plan =
    (events : List (Event × Act)) → AreSpoken plan.wide events → Confined (programs_of_plan plan) plan.grants (first_world plan) events

-- Where all programs are trusted, that is to be sandboxed.
abbrev pub TrustedTasksAreSandboxed : Type 0
TrustedTasksAreSandboxed = (plan : Plan) → is_plan plan ≡ true → none_marked plan ≡ true → IsConfined plan → IsSandboxed plan
