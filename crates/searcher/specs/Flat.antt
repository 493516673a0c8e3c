-- The flat certificate of a task: each point of a program has the bound of its first process, which only `cap_enter` changes.
-- (own)
use Rattle.std.specs.Prelude.{◌==◌, ◌&&◌, ◌+◌, ℕ, Bool, true, false, List, [], ◌∷◌, ◌++◌, not, Option, Some, None, if◌then◌else◌}
use Rattle.std.specs.List.{list_any}
use Rattle.std.specs.Ordering.{is_lt}
use Rattle.rights.specs.Classes.{Initial}
use Rattle.file_tree.specs.Nodes.{node}
use Rattle.file_tree.specs.Places.{begins}
use Rattle.certificate.specs.Bounds.{ModeBound, Off, On, Either, Target, In_grant, Any_node, Socket, Held, Bound, PointBound, Certificate, with_slot}
use Rattle.certificate.specs.Bounds as bounds
use Rattle.certificate.specs.Growth.{name_order, open_bound}
use Rattle.certificate.specs.Told.{told_held}
use Rattle.instruction_set.specs.Programs.{Instruction}
use Rattle.task.specs.Plans.{Grant, FirstObject, On_node, On_end, FirstDescriptor, Start, Plan, program_name, programs_of_plan, none_marked}
use Rattle.task.specs.Limits.{all_apart}
use Rattle.instruction_set.specs.Successors.{enters_mode}
use Rattle.searcher.specs.Versions.{flat_version}

-- the grant that holds a place, of which there is one at most
unfoldable pub grant_target : List Grant → List (List ℕ) → Target
grant_target [] place = Any_node
grant_target (g ∷ grants) place = if begins g.path place then In_grant g.name else grant_target grants place

abbrev pub first_target : Plan → FirstObject → Target
first_target plan (On_node n access) = grant_target plan.grants (node plan.nodes n).place
first_target plan (On_end pair side) = Socket (Initial pair) side

-- with the rights and commands that it has, as the certificate tells it
abbrev pub first_held : Plan → FirstDescriptor → Held
first_held plan d = told_held (flat_version plan) (record {
  target = first_target plan d.object;
  least = d.rights;
  greatest = d.rights;
  least_fcntls = d.fcntls;
  greatest_fcntls = d.fcntls;
})

-- the bound with these descriptors, open
abbrev pub with_first : Plan → Bound → List FirstDescriptor → Bound
with_first plan b [] = b
with_first plan b (d ∷ descriptors) = with_slot (with_first plan b descriptors) d.number (bounds.Open (first_held plan d))

-- The mode is what it is at first; but either, where the program may enter it.
abbrev pub flat_mode : Bool → Bool → ModeBound
flat_mode true entered = On
flat_mode false true = Either
flat_mode false false = Off

abbrev pub code_of_start : Plan → Start → List Instruction
code_of_start plan s = programs_of_plan plan s.program

abbrev pub flat_bound : Plan → Start → Bound
flat_bound plan s = with_first plan (open_bound (flat_mode s.mode (list_any enters_mode (code_of_start plan s)))) s.descriptors

-- one bound at each point of a program, from this one on
unfoldable pub points_from : List ℕ → Bound → ℕ → List Instruction → List PointBound
points_from name b point [] = []
points_from name b point (i ∷ code) =
    record { program = name; point = point; bound = b } ∷ points_from name b (point + 1) code

abbrev pub name_of_start : Plan → Start → List ℕ
name_of_start plan s = program_name plan s.program

abbrev pub flat_points_of : Plan → Start → List PointBound
flat_points_of plan s = points_from (name_of_start plan s) (flat_bound plan s) 0 (code_of_start plan s)

-- The first processes by the names of their programs: of those behind a name the next one.
abbrev pub nearer : Plan → List ℕ → Start → Option Start → Option Start
nearer plan name s None = if is_lt (name_order name (name_of_start plan s)) then Some s else None
nearer plan name s (Some t) =
    if is_lt (name_order name (name_of_start plan s)) && is_lt (name_order (name_of_start plan s) (name_of_start plan t))
    then Some s else Some t

unfoldable pub next_behind : Plan → List ℕ → List Start → Option Start
next_behind plan name [] = None
next_behind plan name (s ∷ starts) = nearer plan name s (next_behind plan name starts)

abbrev pub with_next : Plan → (List ℕ → List PointBound) → Option Start → List PointBound
with_next plan rest None = []
with_next plan rest (Some s) = flat_points_of plan s ++ rest (name_of_start plan s)

-- the points of the first processes behind a name, of as many as there are turns
unfoldable pub points_behind : Plan → List Start → List ℕ → List PointBound
points_behind plan [] name = []
points_behind plan (turn ∷ turns) name = with_next plan (points_behind plan turns) (next_behind plan name plan.starts)

-- no name is before that of no bytes
abbrev pub flat_points : Plan → List PointBound
flat_points plan = points_behind plan plan.starts []

-- No two of the first processes have the same program.
abbrev pub have_own : List Start → Bool
have_own starts = all_apart (λ (s t : Start). not (s.program == t.program)) starts

-- THE FLAT CERTIFICATE, of version 2, or of version 4 where the task asks for further rights. A task has none in which two of the first processes have one program, or one is marked.
unfoldable pub plain_flat : Plan → Option Certificate
plain_flat plan = if have_own plan.starts then Some (record { version = flat_version plan; points = flat_points plan; channels = []; authorities = [] }) else None

abbrev pub flat : Plan → Option Certificate
flat plan = if none_marked plan then plain_flat plan else None
