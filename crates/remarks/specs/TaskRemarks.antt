-- What is remarked on a task's first processes and its policy. (own)
use Rattle.std.specs.Prelude.{◌&&◌, ◌||◌, ◌==◌, ◌++◌, not, Bool, true, false, List, [], Option, Some, filter, map}
use Rattle.std.specs.List.{list_all, list_any, range_with_len, slice_get}
use Rattle.std.specs.Str.{bytes_eq}
use Rattle.file_tree.specs.Places.{same_place}
use Rattle.rights.specs.Limits.{most_pairs}
use Rattle.rights.specs.OperationLists.{lists, same_operation}
use Rattle.rights.specs.Operations.{Operation, Look}
use Rattle.rights.specs.Sets.{is_within, lookup_right}
use Rattle.rights.specs.Sides.{other_side}
use Rattle.rights.specs.Values.{Name, PairNumber, SideNumber}
use Rattle.certificate.specs.Bounds.{Bound, Certificate, Target, In_grant, Any_node, Socket, Unknown, bound_at}
use Rattle.instruction_set.specs.Programs.{Instruction, Invoke}
use Rattle.rules.specs.Slots.{may_be_on}
use Rattle.rules.specs.Uses.{Use, uses}
use Rattle.task.specs.Plans.{FirstDescriptor, FirstObject, On_end, On_node, Grant, NamedProgram, Plan, Start}
use Rattle.remarks.specs.Remarks.{holds_there}
use Rattle.remarks.specs.Ways.{points}

-- ## The sides of initial pairs
abbrev pub is_side : PairNumber → SideNumber → FirstObject → Bool
is_side pair side (On_node node access) = false
is_side pair side (On_end p s) = (p == pair) && (s == side)

abbrev pub starts_with : PairNumber → SideNumber → Start → Bool
starts_with pair side s = list_any (λ (d : FirstDescriptor). is_side pair side d.object) s.descriptors

-- some process has a side of a pair, and none the other: nothing ever comes by the one, and nobody takes what is sent
abbrev pub is_alone : List Start → SideNumber → PairNumber → Bool
is_alone starts side pair =
    list_any (starts_with pair side) starts && not (list_any (starts_with pair (other_side side)) starts)

-- the pairs of which processes have this side alone
abbrev pub lone_sides : List Start → SideNumber → List PairNumber
lone_sides starts side = filter (is_alone starts side) (range_with_len 0 most_pairs)

-- ## What is done in a grant
abbrev pub may_be_in : Name → Target → Bool
may_be_in grant (In_grant name) = bytes_eq name grant
may_be_in grant Any_node = true
may_be_in grant (Socket class side) = false
may_be_in grant Unknown = true

-- A name that is looked up beneath a directory is looked at, links' texts among them.
abbrev pub looks_up : Operation → Use → Bool
looks_up operation u = same_operation operation Look && is_within lookup_right u.need.rights

abbrev pub use_does : Name → Operation → Use → Bool
use_does grant operation u = may_be_in grant u.slot.held.target && (lists u.need.operations operation || looks_up operation u)

abbrev pub call_does : Name → Operation → Option Bound → Instruction → Bool
call_does grant operation (Some b) (Invoke call otherwise) = may_be_on b.mode && not (list_all (λ u. not (use_does grant operation u)) (uses b call))
call_does grant operation _ _ = false

-- some call of the program, which may be made in the mode, may do the operation in the grant
abbrev pub program_does : Certificate → Name → Operation → NamedProgram → Bool
program_does c grant operation p =
    list_any (λ point. holds_there (call_does grant operation (bound_at c p.name point)) (slice_get p.code point)) (points p.code)

-- ## What is remarked of a task
-- some process has this side of a pair, and none the other; a grant holds the whole tree
pub data TaskRemark : Type 0 where
  Alone : PairNumber → SideNumber → TaskRemark
  Boundless : Name → TaskRemark

abbrev pub lone_ends : List Start → SideNumber → List TaskRemark
lone_ends starts side = map (λ pair. Alone pair side) (lone_sides starts side)

abbrev pub boundless : List Grant → List TaskRemark
boundless grants = map (λ (g : Grant). Boundless g.name) (filter (λ (g : Grant). same_place g.path []) grants)

-- all of them: the pairs of which processes have the first side alone, those with the second, and the grants
abbrev pub task_remarks : Plan → List TaskRemark
task_remarks plan = lone_ends plan.starts 0 ++ (lone_ends plan.starts 1 ++ boundless plan.grants)
