-- Each event of a call asks again what its first event has asked: the mode, the descriptors, their rights and what they are of. It makes
-- no difference. (own)
use Rattle.std.specs.Prelude.{◌≡◌, ℕ, Bool, true, false, List, [], ◌∷◌, Option, Some, None}
use Rattle.std.specs.List.{slice_get}
use Rattle.rights.specs.Values.{DescriptorNumber}
use Rattle.rights.specs.Errors.{Cause, CapMode, BadDescriptor, MissingRight, Kind, Escape, Path, Access, Full, Refused}
use Rattle.rights.specs.Needs.{Second, needs_of}
use Rattle.rights.specs.Sets.{is_within}
use Rattle.process.specs.State.{ProcessState, Walking, One, Two}
use Rattle.instruction_set.specs.Programs.{Syscall, Renameat, called}
use Rattle.fd_table.specs.Descriptions.{Descriptor}
use Rattle.kernel.specs.World.{World, Choice, IsFresh}
use Rattle.kernel.specs.Answers.{Event, IsEvent, Answer, Fails, Waits, Gives, Walks, value_of}
use Rattle.rights.specs.Opens.{no_request}
use Rattle.kernel.specs.Calls.{answer, is_at_last}
use Rattle.kernel.specs.Hostile.{Act, IsAct, step_as}
use Rattle.kernel.specs.Steps.{Programs}
use Rattle.kernel.specs.Walks.{under_way}
use Rattle.kernel.specs.WellFormed.{ArePrograms, IsWellFormed}

-- whether a cause is asked before a path is looked up
abbrev pub is_early : Cause → Bool
is_early CapMode = true
is_early BadDescriptor = true
is_early MissingRight = true
is_early Kind = true
is_early Escape = false
is_early Path = false
is_early Access = false
is_early Full = false
is_early Refused = false

-- both lookups of a rename are at their last name
abbrev pub AreAtLast : Option Walking → Type 0
AreAtLast None = ⊥
AreAtLast (Some (One walk)) = ⊥
AreAtLast (Some (Two one other)) = (is_at_last one ≡ true) × (is_at_last other ≡ true)

-- A rename at its last names whose second descriptor lacks the right to remove what is replaced: that one is asked once both paths
-- have been found.
abbrev pub LacksRemoval : (DescriptorNumber → Option Descriptor) → ProcessState → Syscall → Type 0
LacksRemoval row s (Renameat x from y to) =
    AreAtLast s.walk
    × (d : Descriptor)
    × (row (value_of s y) ≡ Some d)
    × (is_within (needs_of (called (Renameat x from y to)) no_request Second true) d.rights ≡ false)
LacksRemoval row s _ = ⊥

-- A failure for an early cause is such a rename's.
unfoldable pub FailsLate : (DescriptorNumber → Option Descriptor) → ProcessState → Syscall → Answer → Type 0
FailsLate row s call (Fails errno cause) = is_early cause ≡ true → (cause ≡ MissingRight) × LacksRemoval row s call
FailsLate row s call Waits = Unit {0}
FailsLate row s call (Gives value change effects) = Unit {0}
FailsLate row s call (Walks walking) = Unit {0}

-- so the event of a process whose call has a lookup under way
abbrev pub AsksAgain : Programs → World → Event → Type 0
AsksAgain programs w e =
    (s : ProcessState) (walking : Walking) (call : Syscall)
    → slice_get w.processes e.process ≡ Some s
    → s.walk ≡ Some walking
    → under_way programs s ≡ Some call
    → FailsLate (w.files.table e.process) s call (answer w e.process s e call)

-- so each event of every run of these events, whatever is done at them
abbrev pub AskAgain : Programs → World → List (Event × Act) → Type 0
AskAgain programs w [] = Unit {0}
AskAgain programs w ((e, act) ∷ events) =
    AsksAgain programs w e
    × ((choice : Choice)
    → IsFresh w.files choice
    → IsEvent e
    → IsAct programs w e.process act
    → AskAgain programs (step_as programs w e act choice).world events)

-- From any well-formed world in which no process has anything under way.
abbrev pub IsResting : World → Type 0
IsResting w = (p : ℕ) (s : ProcessState) → slice_get w.processes p ≡ Some s → s.walk ≡ None

abbrev pub LaterEventsFailLate : Type 0
LaterEventsFailLate =
    (programs : Programs) (w : World) (events : List (Event × Act))
    → ArePrograms programs
    → IsWellFormed programs w
    → IsResting w
    → AskAgain programs w events
