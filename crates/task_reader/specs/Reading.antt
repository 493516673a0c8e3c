-- The task that a TOML document stands for, or the least of what is wrong with it. (own)
use Rattle.std.specs.Prelude.{ℕ, ℤ, pos, negsuc, Bool, true, ◌&&◌, ◌||◌, not, nat_le, nat_lt, List, [], ◌∷◌, ◌++◌, length, Option, Some, None, option_map, option_and_then, Result}
use Rattle.std.specs.Prelude.{Ok, Err, if◌then◌else◌}
use Rattle.std.specs.List.{list_all, list_any}
use Rattle.file_tree.specs.Places.{begins, above}
use Rattle.file_tree.specs.Nodes.{Node, node, node_at, is_dir, is_link, stands_at}
use Rattle.rights.specs.Limits.{most_nodes, most_path, most_processes, most_grants, most_programs, most_descriptors, most_pairs}
use Rattle.file_tree.specs.Refusals.{new_tree}
use Rattle.file_tree.specs.WellFormed.{has_directory, is_within_limits}
use Rattle.instruction_set.specs.Programs.{Instruction}
use Rattle.instruction_set.specs.Assembly.{Fault, assembly_in}
use Rattle.fd_table.specs.Descriptions.{Access}
use Rattle.toml.specs.Data.{Members}
use Rattle.task.specs.Plans.{Grant, NamedProgram, FirstObject, On_node, On_end, FirstDescriptor, Start, Plan}
use Rattle.task.specs.Plans as plans
use Rattle.task.specs.Limits.{all_apart, are_numbered_apart}
use Rattle.task_reader.specs.Documents.{document_of}
use Rattle.task_reader.specs.Paths.{place_of}
use Rattle.task_reader.specs.Written.{WrittenNode, WrittenGrant, WrittenProgram, WrittenObject, By_path, By_pair, WrittenDescriptor, WrittenStart, WrittenTask, written_task}

-- What can be wrong. Where more than one applies, the first of these is told.
pub data Mistake : Type 0 where
  Not_toml : Mistake  -- the bytes are no TOML document
  Wrong_field : Mistake  -- a key, a value's type, a word or a name is wrong
  Wrong_node : Mistake  -- a node's path isn't one, is given twice, or comes before its directory
  Wrong_grant : Mistake  -- a grant isn't a directory's, or is in another
  Wrong_descriptor : Mistake  -- a number is none or is given twice, there is no such node or pair, or a directory is written
  Wrong_program : List ℕ → Fault → Mistake  -- the named program isn't assembled
  Past_limit : Mistake  -- something is too long, empty, or too many

-- what is there, or the mistake that it isn't
abbrev pub or_mistake : {A : Type 0} → Mistake → Option A → Result A Mistake
or_mistake mistake None = Err mistake
or_mistake mistake (Some a) = Ok a

infixl 10 ◌>>=◌
abbrev pub ◌>>=◌ : {A B : Type 0} → Result A Mistake → (A → Result B Mistake) → Result B Mistake
(Ok a) >>= f = f a
(Err mistake) >>= f = Err mistake

-- A node stands in a directory that is listed before it, at a place where nothing stands yet.
unfoldable pub can_stand : List Node → List (List ℕ) → Bool
can_stand made place = has_directory made (above place) && not (list_any (stands_at place) made)

abbrev pub node_placed : WrittenNode → List (List ℕ) → Node
node_placed n place = record { kind = n.kind; place = place; linked = true; content = n.content }

abbrev pub node_behind : List Node → WrittenNode → List (List ℕ) → Option Node
node_behind made n place = if can_stand made place then Some (node_placed n place) else None

abbrev pub node_made : List Node → WrittenNode → Option Node
node_made made n = option_and_then (node_behind made n) (place_of n.path)

abbrev pub tree_from : List Node → List WrittenNode → Option (List Node)
tree_from made [] = Some made
tree_from made (n ∷ nodes) = option_and_then (λ m. tree_from (made ++ m ∷ []) nodes) (node_made made n)

abbrev pub tree_of : List WrittenNode → Option (List Node)
tree_of nodes = tree_from new_tree nodes

-- A grant is of a directory that is there, and no place is in two of them.
unfoldable pub can_grant : List Node → List (List ℕ) → Bool
can_grant tree place = has_directory tree place

abbrev pub granted_place : List Node → List ℕ → Option (List (List ℕ))
granted_place tree path = option_and_then (λ place. if can_grant tree place then Some place else None) (place_of path)

abbrev pub grant_at : WrittenGrant → List (List ℕ) → Grant
grant_at g place = record { name = g.name; path = place; operations = g.operations }

abbrev pub grant_placed : List Node → WrittenGrant → Option Grant
grant_placed tree g = option_map (grant_at g) (granted_place tree g.path)

abbrev pub grants_placed : List Node → List WrittenGrant → Option (List Grant)
grants_placed tree [] = Some []
grants_placed tree (g ∷ grants) =
    option_and_then (λ x. option_map (λ rest. x ∷ rest) (grants_placed tree grants)) (grant_placed tree g)

abbrev pub are_separate : List (List ℕ) → List (List ℕ) → Bool
are_separate p q = not (begins p q) && not (begins q p)

abbrev pub are_disjoint : Grant → Grant → Bool
are_disjoint g h = are_separate g.path h.path

abbrev pub disjoint : List Grant → Option (List Grant)
disjoint grants = if all_apart are_disjoint grants then Some grants else None

abbrev pub policy_of : List Node → List WrittenGrant → Option (List Grant)
policy_of tree grants = option_and_then disjoint (grants_placed tree grants)

-- A descriptor has a number from 0 to 15, which no other of the process has. It is of an end of one of the pairs 0 to 31,
-- or of a file or a directory; a directory isn't written. (open(2), socketpair(2))
abbrev pub number_below : ℕ → ℤ → Option ℕ
number_below bound (pos n) = if nat_lt n bound then Some n else None
number_below bound (negsuc n) = None

abbrev pub can_access : Node → Access → Bool
can_access m access = not (is_link m.kind) && (access.readable || access.writable) && not (is_dir m.kind && access.writable)

unfoldable pub can_open : List Node → ℕ → Access → Bool
can_open tree n access = can_access (node tree n) access

abbrev pub number_of_path : List Node → List ℕ → Option ℕ
number_of_path tree path = option_and_then (node_at tree) (place_of path)

abbrev pub opened_object : List Node → Access → ℕ → Option FirstObject
opened_object tree access n = if can_open tree n access then Some (On_node n access) else None

abbrev pub path_placed : List Node → List ℕ → Access → Option FirstObject
path_placed tree path access = option_and_then (opened_object tree access) (number_of_path tree path)

abbrev pub pair_placed : ℤ → ℕ → Option FirstObject
pair_placed pair side = option_map (λ n. On_end n side) (number_below most_pairs pair)

abbrev pub object_placed : List Node → WrittenObject → Option FirstObject
object_placed tree (By_path path access) = path_placed tree path access
object_placed tree (By_pair pair side) = pair_placed pair side

abbrev pub descriptor_at : WrittenDescriptor → Option ℕ → Option FirstObject → Option FirstDescriptor
descriptor_at d (Some number) (Some object) =
    Some (record { number = number; object = object; rights = d.rights; fcntls = d.fcntls })
descriptor_at d _ _ = None

abbrev pub descriptor_placed : List Node → WrittenDescriptor → Option FirstDescriptor
descriptor_placed tree d = descriptor_at d (number_below most_descriptors d.number) (object_placed tree d.object)

abbrev pub descriptors_placed : List Node → List WrittenDescriptor → Option (List FirstDescriptor)
descriptors_placed tree [] = Some []
descriptors_placed tree (d ∷ descriptors) =
    option_and_then (λ x. option_map (λ rest. x ∷ rest) (descriptors_placed tree descriptors)) (descriptor_placed tree d)

abbrev pub numbered_apart : List FirstDescriptor → Option (List FirstDescriptor)
numbered_apart descriptors = if all_apart are_numbered_apart descriptors then Some descriptors else None

abbrev pub table_of : List Node → List WrittenDescriptor → Option (List FirstDescriptor)
table_of tree descriptors = option_and_then numbered_apart (descriptors_placed tree descriptors)

abbrev pub start_from : WrittenStart → List FirstDescriptor → Start
start_from s descriptors = record { program = s.program; mode = s.mode; descriptors = descriptors }

abbrev pub start_placed : List Node → WrittenStart → Option Start
start_placed tree s = option_map (start_from s) (table_of tree s.descriptors)

abbrev pub starts_placed : List Node → List WrittenStart → Option (List Start)
starts_placed tree [] = Some []
starts_placed tree (s ∷ starts) =
    option_and_then (λ x. option_map (λ rest. x ∷ rest) (starts_placed tree starts)) (start_placed tree s)

-- The programs are assembled in the order of the task, in the wide language where it asks for further rights.
abbrev pub program_from : List ℕ → Bool → Result (List Instruction) Fault → Result NamedProgram Mistake
program_from name marked (Ok code) = Ok (record { name = name; code = code; marked = marked })
program_from name marked (Err fault) = Err (Wrong_program name fault)

abbrev pub assembled : Bool → WrittenProgram → Result NamedProgram Mistake
assembled wide p = program_from p.name p.marked (assembly_in wide p.text)

abbrev pub all_assembled : Bool → List WrittenProgram → Result (List NamedProgram) Mistake
all_assembled wide [] = Ok []
all_assembled wide (p ∷ programs) = do
  first ← assembled wide p
  rest ← all_assembled wide programs
  Ok (first ∷ rest)

-- What is limited: the length of a node's path, of its names, and of what it holds; and how many nodes, grants, programs
-- and processes there are.
abbrev pub is_short : WrittenNode → Bool
is_short n = nat_le (length n.path) most_path

abbrev pub keeps_limits : WrittenTask → List Node → Bool
keeps_limits task tree =
    list_all is_short task.nodes && list_all is_within_limits tree && nat_le (length tree) most_nodes
    && nat_le (length task.grants) most_grants && nat_le (length task.programs) most_programs
    && nat_le (length task.starts) most_processes

abbrev pub within_limits : WrittenTask → Plan → Result Plan Mistake
within_limits task plan = if keeps_limits task plan.nodes then Ok plan else Err Past_limit

-- The task that is written, if it is one.
unfoldable pub plan_of : WrittenTask → Result Plan Mistake
plan_of task = do
  tree ← or_mistake Wrong_node (tree_of task.nodes)
  grants ← or_mistake Wrong_grant (policy_of tree task.grants)
  starts ← or_mistake Wrong_descriptor (starts_placed tree task.starts)
  programs ← all_assembled task.wide task.programs
  within_limits task (plans.plan_in task.wide tree grants programs starts)

-- What a document stands for.
unfoldable pub plan_in : Members → Result Plan Mistake
plan_in document = do
  task ← or_mistake Wrong_field (written_task document)
  plan_of task

-- What some bytes stand for.
unfoldable pub task_of : List ℕ → Result Plan Mistake
task_of bytes = do
  document ← or_mistake Not_toml (document_of bytes)
  plan_in document
