-- Places of a record, and those of a task that stand for them. (own)
use Rattle.std.specs.Prelude.{◌&&◌, ◌||◌, not, nat_eq, Bool, true, false, List, [], ◌∷◌, ◌++◌, codes, drop, take, length, Option, Some, None, if◌then◌else◌}
use Rattle.std.specs.List.{list_any}
use Rattle.std.specs.Str.{bytes_eq}
use Rattle.rights.specs.Values.{PathText}
use Rattle.file_tree.specs.Nodes.{Node, is_link}
use Rattle.file_tree.specs.Places.{ends_name, lies_at, names_text, slash}
use Rattle.call_facts.specs.Arguments.{first_path}
use Rattle.call_facts.specs.Facts.{Scope, Mode, Table, Object, Of_node, Root, Beneath, System, facts_of}
use Rattle.instruction_set.specs.Programs.{Instruction, Invoke, Syscall, called}
use Rattle.task.specs.Plans.{Grant, NamedProgram, Plan}

-- REAL=MODEL: what lies at the first place of a record or beneath it lies, in the task, at the second or beneath it. A place is written
-- without a slash at its end, so that of the root is empty.
pub record Placing : Type 0 where
  pub real : PathText
  pub model : PathText

-- what a path of the record is in the task, by the first of these at which it lies
abbrev pub placed : List Placing → PathText → PathText
placed [] path = path
placed (p ∷ placings) path = if lies_at p.real path then p.model ++ drop (length p.real) path else placed placings path

-- the path from the root that an instruction's call names
abbrev pub path_from_root : Scope → Syscall → Option PathText
path_from_root Root call = first_path call
path_from_root Mode call = None
path_from_root Table call = None
path_from_root Object call = None
path_from_root Of_node call = None
path_from_root Beneath call = None
path_from_root System call = None

abbrev pub global_path : Instruction → Option PathText
global_path (Invoke call otherwise) = path_from_root (facts_of (called call)).scope call
global_path _ = None

abbrev pub is_path_of : PathText → Option PathText → Bool
is_path_of path None = false
is_path_of path (Some named) = bytes_eq named path

abbrev pub names_path : PathText → List Instruction → Bool
names_path path code = list_any (λ i. is_path_of path (global_path i)) code

-- behind a slash stands a name that isn't empty, `.` or `..`
abbrev pub begins_plainly : PathText → Bool
begins_plainly path = not (ends_name path) && not (lies_at (codes ".") path) && not (lies_at (codes "..") path)

-- so behind each slash
abbrev pub is_plain : PathText → Bool
is_plain [] = true
is_plain (b ∷ path) = (not (nat_eq b slash) || begins_plainly path) && is_plain path

abbrev pub begins_at_root : PathText → Bool
begins_at_root [] = false
begins_at_root (b ∷ path) = nat_eq b slash

-- A path is a place's text: `/`, or names with one slash before each.
abbrev pub is_place : PathText → Bool
is_place path = bytes_eq path (slash ∷ []) || begins_at_root path && is_plain path

-- a link stands at a path or on its way
abbrev pub is_link_to : PathText → Node → Bool
is_link_to path n = is_link n.kind && lies_at (names_text n.place) path

-- The path is a place's, no link of the task's tree stands there or on its way, it lies in no grant of the task, and no call of its programs names it.
abbrev pub is_foreign : Plan → PathText → Bool
is_foreign plan path =
    is_place path
    && not (list_any (is_link_to path) plan.nodes)
    && not (list_any (λ (g : Grant). lies_at (names_text g.path) path) plan.grants)
    && not (list_any (λ (p : NamedProgram). names_path path p.code) plan.programs)
