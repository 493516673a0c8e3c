-- Laws of tasks.
use Rattle.std.specs.Prelude.{◌≡◌, ◌≢◌, ◌↔◌, ℕ, true, false, List, [], ◌∷◌, codes, Option, Some, None}
use Rattle.std.specs.List.{slice_get}
use Rattle.rights.specs.Operations.{Operation, Read}
use Rattle.process.specs.State.{ProcessState, new_process}
use Rattle.fd_table.specs.Descriptions.{Descriptor, new_state}
use Rattle.fd_table.specs.OpenFiles.{OpenFiles}
use Rattle.kernel.specs.World.{World}
use Rattle.kernel.specs.WellFormed.{ArePrograms, IsBetweenSteps}
use Rattle.task.specs.Plans.{Grant, FirstObject, On_node, On_end, FirstDescriptor, NamedProgram, Start, Plan, marked_in, programs_of_plan}
use Rattle.task.specs.Limits.{is_plan}
use Rattle.task.specs.Policies.{is_allowed}
use Rattle.task.specs.Sandboxed.{Allowed}
use Rattle.task.specs.Begins.{given_to, first_object, first_world}

-- A task starts in a well-formed world of its programs.
abbrev pub FirstWorldsAreWellFormed : Type 0
FirstWorldsAreWellFormed =
    (plan : Plan) → is_plan plan ≡ true → ArePrograms (programs_of_plan plan) × IsBetweenSteps (programs_of_plan plan) (first_world plan)

-- A first process stands at point 0 of its program with all registers 0, in capability mode if the task says so, and is marked if
-- its program is.
abbrev pub IsFirstProcess : List NamedProgram → Option Start → Option ProcessState → Type 0
IsFirstProcess programs None None = Unit {0}
IsFirstProcess programs None (Some s) = ⊥
IsFirstProcess programs (Some start) None = ⊥
IsFirstProcess programs (Some start) (Some s) = s ≡ record (new_process start.program start.mode) { marked = marked_in (slice_get programs start.program) }

-- A descriptor that is given has its rights and commands, and is of its node, for its access, or of its end, at offset 0 and
-- with no status flags. (open(2), socketpair(2))
pub record IsGiven (f : OpenFiles) (given : FirstDescriptor) (d : Descriptor) : Type 0 where
  pub rights : d.rights ≡ given.rights
  pub fcntls : d.fcntls ≡ given.fcntls
  pub object : f.objects d.description ≡ first_object given.object
  pub state : f.states d.description ≡ new_state false

abbrev pub IsFirstEntry : OpenFiles → Option FirstDescriptor → Option Descriptor → Type 0
IsFirstEntry f None None = Unit {0}
IsFirstEntry f None (Some d) = ⊥
IsFirstEntry f (Some given) None = ⊥
IsFirstEntry f (Some given) (Some d) = IsGiven f given d

-- Two entries share a description if both are of one side of one pair; one of a node shares it with itself alone.
abbrev pub IsShared : ℕ → ℕ → FirstObject → ℕ → ℕ → FirstObject → Type 0
IsShared p n (On_node node access) q m (On_node other its) = (p ≡ q) × (n ≡ m)
IsShared p n (On_node node access) q m (On_end pair side) = ⊥
IsShared p n (On_end pair side) q m (On_node node access) = ⊥
IsShared p n (On_end pair side) q m (On_end other its) = (pair ≡ other) × (side ≡ its)

-- A world is a task's first one: it has the task's tree and processes, an entry for each first descriptor and no other,
-- whose descriptions are shared just so, and nothing is queued.
pub record IsFirstWorld (plan : Plan) (w : World) : Type 0 where
  pub tree : w.tree ≡ plan.nodes
  pub processes : (p : ℕ) → IsFirstProcess plan.programs (slice_get plan.starts p) (slice_get w.processes p)
  pub entries : (p n : ℕ) → IsFirstEntry w.files (given_to (slice_get plan.starts p) n) (w.files.table p n)
  pub shared :
      (p n q m : ℕ) (given other : FirstDescriptor) (d e : Descriptor) → given_to (slice_get plan.starts p) n ≡ Some given
      → given_to (slice_get plan.starts q) m ≡ Some other → w.files.table p n ≡ Some d → w.files.table q m ≡ Some e
      → (d.description ≡ e.description) ↔ IsShared p n given.object q m other.object
  pub queues : (pair side : ℕ) → w.files.queue pair side ≡ []

abbrev pub FirstWorldsAreFirst : Type 0
FirstWorldsAreFirst = (plan : Plan) → is_plan plan ≡ true → IsFirstWorld plan (first_world plan)

abbrev pub AllowedIsTested : Type 0
AllowedIsTested =
    (grants : List Grant) (operation : Operation) (place : List (List ℕ))
    → (is_allowed grants operation place ≡ true) ↔ Allowed grants operation place

-- Some plan is valid: a process has a descriptor, `/work/in` may be read, and `/workshop` not.
abbrev pub PlanExists : Type 0
PlanExists =
    (plan : Plan)
    × (is_plan plan ≡ true)
    × (given_to (slice_get plan.starts 0) 0 ≢ None)
    × (is_allowed plan.grants Read (codes "work" ∷ codes "in" ∷ []) ≡ true)
    × (is_allowed plan.grants Read (codes "workshop" ∷ []) ≡ false)
