-- Steps in which a process of an untrusted program does anything that it likes. (own)
use Rattle.std.specs.Prelude.{◌≡◌, Bool, true, List, [], ◌∷◌, Option, Some, None}
use Rattle.std.specs.List.{slice_get}
use Rattle.rights.specs.Values.{ProcessNumber}
use Rattle.instruction_set.specs.Languages.{is_spoken}
use Rattle.process.specs.State.{Deed, ProcessState, is_hostile}
use Rattle.kernel.specs.World.{World, Choice, IsFresh}
use Rattle.kernel.specs.Answers.{Event, IsEvent}
use Rattle.kernel.specs.Steps.{Programs, Stepped, handed, step}
use Rattle.kernel.specs.Origins.{Caller, caller_of}
use Rattle.kernel.specs.Gains.{GainsNothing}
use Rattle.kernel.specs.Runs.{HasNext}
use Rattle.kernel.specs.Renamings.{DiffersInNumbers, StepsAlike}
use Rattle.kernel.specs.WellFormed.{ArePrograms, IsBetweenSteps, IsDeed, IsWellFormed}

-- What an event has its process do: what it goes on with by itself, or this deed, if it may do anything.
pub data Act : Type 0 where
  Own : Act
  Does : (deed : Deed) → Act

-- the world in which it is about to do so
abbrev pub about : World → ProcessNumber → Act → World
about w p Own = w
about w p (Does deed) = handed w p deed

-- **The hostile step**: the event's process does so; and the call that it makes then.
abbrev pub step_as : Programs → World → Event → Act → Choice → Stepped
step_as programs w e act choice = step programs (about w e.process act) e choice

abbrev pub caller_as : Programs → World → Event → Act → Option Caller
caller_as programs w e act = caller_of programs (about w e.process act) e

-- The deed is one of its process, if that may do one.
abbrev pub IsDeedOf : Programs → Option ProcessState → Deed → Type 0
IsDeedOf programs None deed = Unit {0}
IsDeedOf programs (Some s) deed = is_hostile s ≡ true → IsDeed programs s.program deed

abbrev pub IsAct : Programs → World → ProcessNumber → Act → Type 0
IsAct programs w p Own = Unit {0}
IsAct programs w p (Does deed) = IsDeedOf programs (slice_get w.processes p) deed

-- What is done is of a language, the wide one or the other.
abbrev pub IsSpoken : Bool → Act → Type 0
IsSpoken wide Own = Unit {0}
IsSpoken wide (Does deed) = is_spoken wide deed.instruction ≡ true

-- ## What holds of them as of other steps
-- There is a next world, and each is well formed and between two steps.
abbrev pub NextWorldExistsAsWell : Type 0
NextWorldExistsAsWell =
    (programs : Programs) (w : World) (e : Event) (act : Act)
    → ArePrograms programs
    → IsBetweenSteps programs w
    → IsEvent e
    → IsAct programs w e.process act
    → HasNext programs (about w e.process act) e

-- Worlds that differ only in numbers show the same line.
abbrev pub NumbersDoNotMatterAsWell : Type 0
NumbersDoNotMatterAsWell =
    (programs : Programs) (w v : World) (e : Event) (act : Act) (j k : Choice)
    → ArePrograms programs
    → IsWellFormed programs w
    → IsWellFormed programs v
    → IsAct programs w e.process act
    → DiffersInNumbers w v
    → IsFresh w.files j
    → IsFresh v.files k
    → StepsAlike programs (about w e.process act) (about v e.process act) e j k

-- Nothing is gained, at each step of every run.
abbrev pub NeverGainsAsWell : Programs → World → List (Event × Act) → Type 0
NeverGainsAsWell programs w [] = Unit {0}
NeverGainsAsWell programs w ((e, act) ∷ events) =
    (choice : Choice)
    → IsFresh w.files choice
    → GainsNothing w e.process (caller_as programs w e act) (step_as programs w e act choice).world
    × NeverGainsAsWell programs (step_as programs w e act choice).world events

abbrev pub NoRunGainsAsWell : Type 0
NoRunGainsAsWell = (programs : Programs) (w : World) (events : List (Event × Act)) → NeverGainsAsWell programs w events
