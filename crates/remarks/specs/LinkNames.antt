-- Which names a link of a task may have: its own where the task starts, and what a rename may give it. A link is never made, and a rename
-- doesn't follow the link that it moves, so there are no others. (own, after rename(2))
use Rattle.std.specs.Prelude.{◌&&◌, ◌||◌, not, Bool, false, Option, Some, None, length, ◌-◌}
use Rattle.std.specs.List.{list_any, slice_get}
use Rattle.std.specs.Str.{bytes_eq}
use Rattle.rights.specs.OperationLists.{lists}
use Rattle.rights.specs.Operations.{Remove}
use Rattle.rights.specs.Values.{Name}
use Rattle.file_tree.specs.Nodes.{Node, is_link}
use Rattle.file_tree.specs.Places.{begins}
use Rattle.lookup.specs.Paths.{last_component}
use Rattle.instruction_set.specs.Programs.{Instruction, Invoke, called}
use Rattle.call_facts.specs.Arguments.{second_path}
use Rattle.call_facts.specs.Facts.{moves_name}
use Rattle.rights.specs.Values.{PathText}
use Rattle.task.specs.Plans.{Grant, NamedProgram, Plan, none_marked}

abbrev pub is_last_name : Name → Option Name → Bool
is_last_name name None = false
is_last_name name (Some other) = bytes_eq other name

-- a link that has this name where the task starts
abbrev pub is_link_of : Name → Node → Bool
is_link_of name n = is_link n.kind && is_last_name name (slice_get n.place (length n.place - 1))

-- a path that ends with this name
abbrev pub ends_as : Name → Option PathText → Bool
ends_as name None = false
ends_as name (Some path) = bytes_eq (last_component path) name

-- the call gives this name to what it moves
abbrev pub gives_name : Name → Instruction → Bool
gives_name name (Invoke call otherwise) = moves_name (called call) && ends_as name (second_path call)
gives_name name _ = false

abbrev pub may_give : Name → NamedProgram → Bool
may_give name p = list_any (gives_name name) p.code

-- An untrusted program may give any name, in the mode, to a link in a grant that lists removing: to one that lies there where the task
-- starts, or to any, where some program moves something.
abbrev pub is_link_in : Grant → Node → Bool
is_link_in g n = is_link n.kind && begins g.path n.place

abbrev pub is_rename : Instruction → Bool
is_rename (Invoke call otherwise) = moves_name (called call)
is_rename _ = false

abbrev pub has_rename : NamedProgram → Bool
has_rename p = list_any is_rename p.code

abbrev pub frees_names : Plan → Grant → Bool
frees_names plan g = lists g.operations Remove && (list_any (is_link_in g) plan.nodes || list_any has_rename plan.programs)

abbrev pub gives_all_names : Plan → Bool
gives_all_names plan = not (none_marked plan) && list_any (frees_names plan) plan.grants

-- some link has this name where the task starts; or there is a link, and some program may give the name
abbrev pub names_link : Plan → Name → Bool
names_link plan name =
    list_any (is_link_of name) plan.nodes
    || list_any (λ (n : Node). is_link n.kind) plan.nodes && (gives_all_names plan || list_any (may_give name) plan.programs)
