-- Runs whose last step breaks something. (own)
use Rattle.std.specs.Prelude.{◌≡◌, ◌<◌, ℕ, Bool, true, false, List, [], ◌∷◌, length, map, Option, Some, None}
use Rattle.std.specs.List.{list_all, remove, slice_get}
use Rattle.std.specs.Option.{option_map}
use Rattle.instruction_set.specs.Languages.{is_spoken}
use Rattle.kernel.specs.World.{World, Choice, IsFresh}
use Rattle.kernel.specs.Answers.{Event, AreEvents}
use Rattle.kernel.specs.Hostile.{Act, Own, Does, IsAct, step_as}
use Rattle.kernel.specs.Steps.{Programs, Acted}
use Rattle.task.specs.Plans.{Grant, Plan, programs_of_plan}
use Rattle.task.specs.Begins.{first_world}
use Rattle.task.specs.Confined.{IsConfined}
use Rattle.task.specs.Limits.{is_plan}
use Rattle.task.specs.Sandboxed.{IsSandboxed}
use Rattle.simulator.specs.Lines.{shown_step}
use Rattle.explore.specs.Breaches.{Breach, breach_in}

-- A move of a run: an event, and what its process does at it.
abbrev pub Move : Type 0
Move = Event × Act

abbrev pub is_own : Act → Bool
is_own Own = true
is_own (Does deed) = false

-- each process goes on with what its program has
abbrev pub are_own : List Move → Bool
are_own moves = list_all (λ move. is_own move.1) moves

-- events at which each process does so
abbrev pub own_moves : List Event → List Move
own_moves events = map (λ e. (e, Own)) events

abbrev pub events_in : List Move → List Event
events_in moves = map (λ move. move.0) moves

-- what a step from this world breaks
abbrev pub broken_at : List Grant → World → Event → Option Acted → Option Breach
broken_at grants w e acted = breach_in grants (slice_get w.processes e.process) (option_map shown_step acted)

-- In every run of these moves from this world, whatever fresh numbers are chosen, what is done at each may be done there, and the last step breaks
-- this. Where no move is left, it is what the step before broke.
abbrev pub EndsWith : Programs → List Grant → World → Option Breach → List Move → Option Breach → Type 0
EndsWith programs grants w before [] last = last ≡ before
EndsWith programs grants w before ((e, act) ∷ moves) last =
    IsAct programs w e.process act
    × ((choice : Choice)
    → IsFresh w.files choice
    → EndsWith programs grants (step_as programs w e act choice).world (broken_at grants w e (step_as programs w e act choice).acted) moves last)

-- what is done at each move is of the language, the wide one or the other
abbrev pub is_spoken_act : Bool → Act → Bool
is_spoken_act wide Own = true
is_spoken_act wide (Does deed) = is_spoken wide deed.instruction

abbrev pub are_all_spoken : Bool → List Move → Bool
are_all_spoken wide moves = list_all (λ (move : Move). is_spoken_act wide move.1) moves

-- so of the task's runs; moves that aren't of its language are none, and break nothing, nor does no move
abbrev pub BreaksIf : Bool → Plan → List Move → Option Breach → Type 0
BreaksIf true plan moves last = EndsWith (programs_of_plan plan) plan.grants (first_world plan) None moves last
BreaksIf false plan moves last = last ≡ None

abbrev pub Breaks : Plan → List Move → Option Breach → Type 0
Breaks plan moves last = BreaksIf (are_all_spoken plan.wide moves) plan moves last

-- The last step breaks something.
abbrev pub BreaksSomething : Plan → List Move → Type 0
BreaksSomething plan moves = (breach : Breach) × Breaks plan moves (Some breach)

-- No move can be left out: without any one of them, the last step breaks nothing.
abbrev pub IsTight : Plan → List Move → Type 0
IsTight plan moves = (i : ℕ) → i < length moves → Breaks plan (remove moves i) None

-- The task isn't confined; and where each process goes on with what its program has, it isn't sandboxed.
pub record IsRefuted (plan : Plan) (moves : List Move) : Type 0 where
  pub confinement : IsConfined plan → ⊥
  pub sandbox : are_own moves ≡ true → IsSandboxed plan → ⊥

-- So of a task some run of which breaks something.
abbrev pub BreachesRefute : Type 0
BreachesRefute =
    (plan : Plan) (moves : List Move) (breach : Breach)
    → is_plan plan ≡ true
    → AreEvents (events_in moves)
    → Breaks plan moves (Some breach)
    → IsRefuted plan moves
