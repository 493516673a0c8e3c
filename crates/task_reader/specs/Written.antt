-- A task as a document writes it: its words are read, and its paths and programs are texts still. (own)
use Rattle.std.specs.Prelude.{◌==◌, ℕ, ◌+◌, ℤ, Bool, true, false, ◌||◌, List, [], ◌∷◌, length, map, codes, Option, Some, None, option_map, option_and_then, bit_or, if◌then◌else◌}
use Rattle.std.specs.List.{list_all}
use Rattle.std.specs.Str.{bytes_eq}
use Rattle.rights.specs.Sets.{all_rights, all_commands, right_names, command_names}
use Rattle.rights.specs.Operations.{Operation, Look, Read, Write, Create, Remove}
use Rattle.rights.specs.OperationLists.{operation_name}
use Rattle.file_tree.specs.Nodes.{Kind, File, Dir, Link}
use Rattle.fd_table.specs.Descriptions.{Access}
use Rattle.texts.specs.Names.{is_name}
use Rattle.instruction_set.specs.Fields.{rights_in, set_of_word}
use Rattle.toml.specs.Data.{Data, Members, get_member, as_str, as_bool, as_table}
use Rattle.task_reader.specs.Documents.{is_among, are_once, only_keys, text_at, integer_at, items_at, each_item, words_in, read_or}

pub record WrittenNode : Type 0 where
  pub path : List ℕ
  pub kind : Kind
  pub content : List ℕ

pub record WrittenGrant : Type 0 where
  pub name : List ℕ
  pub path : List ℕ
  pub operations : List Operation

pub record WrittenProgram : Type 0 where
  pub name : List ℕ
  pub text : List ℕ
  pub marked : Bool

-- what a descriptor is of: the node at a path, which is opened so; or an end of a socket pair, by the pair's number, which
-- may be any yet, and the side, 0 (a) or 1 (b)
pub data WrittenObject : Type 0 where
  By_path : (path : List ℕ) (access : Access) → WrittenObject
  By_pair : (pair : ℤ) (side : ℕ) → WrittenObject

pub record WrittenDescriptor : Type 0 where
  pub number : ℤ
  pub object : WrittenObject
  pub rights : ℕ
  pub fcntls : ℕ

-- a first process, with its program's place among the programs
pub record WrittenStart : Type 0 where
  pub program : ℕ
  pub mode : Bool
  pub descriptors : List WrittenDescriptor

pub record WrittenTask : Type 0 where
  pub nodes : List WrittenNode
  pub grants : List WrittenGrant
  pub programs : List WrittenProgram
  pub starts : List WrittenStart
  pub wide : Bool  -- it asks for further rights

-- A node has a path and a kind. A file has its content too, and a link its target.
abbrev pub node_with : Kind → Option (List ℕ) → Option (List ℕ) → Option WrittenNode
node_with kind (Some path) (Some content) = Some (record { path = path; kind = kind; content = content })
node_with kind _ _ = None

abbrev pub directory_in : Members → Option WrittenNode
directory_in ms =
    if only_keys (codes "path" ∷ codes "kind" ∷ []) ms then node_with Dir (text_at (codes "path") ms) (Some []) else None

abbrev pub file_in : Members → Option WrittenNode
file_in ms =
    if only_keys (codes "path" ∷ codes "kind" ∷ codes "content" ∷ []) ms
    then node_with File (text_at (codes "path") ms) (text_at (codes "content") ms)
    else None

abbrev pub link_in : Members → Option WrittenNode
link_in ms =
    if only_keys (codes "path" ∷ codes "kind" ∷ codes "target" ∷ []) ms
    then node_with Link (text_at (codes "path") ms) (text_at (codes "target") ms)
    else None

abbrev pub node_of_kind : Members → List ℕ → Option WrittenNode
node_of_kind ms kind =
    if bytes_eq kind (codes "dir") then directory_in ms
    else if bytes_eq kind (codes "file") then file_in ms
    else if bytes_eq kind (codes "link") then link_in ms
    else None

abbrev pub node_in : Members → Option WrittenNode
node_in ms = option_and_then (node_of_kind ms) (text_at (codes "kind") ms)

abbrev pub written_node : Data → Option WrittenNode
written_node d = option_and_then node_in (as_table d)

-- A name of a grant or a program is a word.
abbrev pub word_if : List ℕ → Option (List ℕ)
word_if name = if is_name name then Some name else None

abbrev pub name_at : List ℕ → Members → Option (List ℕ)
name_at key ms = option_and_then word_if (text_at key ms)

-- A grant has a name, the path of a directory, and a list of operations.
abbrev pub operation_named : List ℕ → Option Operation
operation_named word =
    if bytes_eq word (operation_name Look) then Some Look
    else if bytes_eq word (operation_name Read) then Some Read
    else if bytes_eq word (operation_name Write) then Some Write
    else if bytes_eq word (operation_name Create) then Some Create
    else if bytes_eq word (operation_name Remove) then Some Remove
    else None

abbrev pub operations_named : List (List ℕ) → Option (List Operation)
operations_named [] = Some []
operations_named (word ∷ words) =
    option_and_then (λ o. option_map (λ rest. o ∷ rest) (operations_named words)) (operation_named word)

abbrev pub operations_in : Data → Option (List Operation)
operations_in d = option_and_then operations_named (words_in d)

abbrev pub grant_with : Option (List ℕ) → Option (List ℕ) → Option (List Operation) → Option WrittenGrant
grant_with (Some name) (Some path) (Some operations) = Some (record { name = name; path = path; operations = operations })
grant_with _ _ _ = None

abbrev pub grant_in : Members → Option WrittenGrant
grant_in ms =
    if only_keys (codes "name" ∷ codes "path" ∷ codes "ops" ∷ []) ms
    then grant_with (name_at (codes "name") ms) (text_at (codes "path") ms)
    (option_and_then operations_in (get_member (codes "ops") ms))
    else None

abbrev pub written_grant : Data → Option WrittenGrant
written_grant d = option_and_then grant_in (as_table d)

-- A program has a name and a text. It is marked if it is said to be untrusted.
abbrev pub program_with : Option (List ℕ) → Option (List ℕ) → Option Bool → Option WrittenProgram
program_with (Some name) (Some text) (Some marked) = Some (record { name = name; text = text; marked = marked })
program_with _ _ _ = None

abbrev pub program_in : Members → Option WrittenProgram
program_in ms =
    if only_keys (codes "name" ∷ codes "code" ∷ codes "untrusted" ∷ []) ms
    then program_with (name_at (codes "name") ms) (text_at (codes "code") ms)
    (read_or false as_bool (get_member (codes "untrusted") ms))
    else None

abbrev pub written_program : Data → Option WrittenProgram
written_program d = option_and_then program_in (as_table d)

-- Flags say what a descriptor's node is opened for: reading, writing or both. Without them it is reading. (open(2))
abbrev pub reading : Access
reading = record { readable = true; writable = false }

abbrev pub is_flag : List ℕ → Bool
is_flag word = bytes_eq word (codes "read") || bytes_eq word (codes "write")

abbrev pub access_named : List (List ℕ) → Option Access
access_named [] = None
access_named (word ∷ words) =
    if list_all is_flag (word ∷ words)
    then Some (record { readable = is_among (codes "read") (word ∷ words); writable = is_among (codes "write") (word ∷ words) })
    else None

abbrev pub access_in : Data → Option Access
access_in d = option_and_then access_named (words_in d)

-- A list of rights or commands stands for the union of what its words name. (rights(4), cap_fcntls_limit(2))
abbrev pub set_from : List (List ℕ × ℕ) → ℕ → List (List ℕ) → Option ℕ
set_from names set [] = Some set
set_from names set (word ∷ words) = option_and_then (λ more. set_from names (bit_or set more) words) (set_of_word names word)

abbrev pub set_named : List (List ℕ × ℕ) → List (List ℕ) → Option ℕ
set_named names words = set_from names 0 words

abbrev pub set_in : List (List ℕ × ℕ) → Data → Option ℕ
set_in names d = option_and_then (set_named names) (words_in d)

-- A list names further rights only where the task asks for them.
abbrev pub rights_listed : Bool → Data → Option ℕ
rights_listed wide d = rights_in wide (set_in right_names d)

-- A descriptor with a pair has a side and is of that end, and it has neither a path nor flags. One without is of the node
-- at its path, and has no side. (open(2), socketpair(2); the sides' names are own)
abbrev pub side_named : List ℕ → Option ℕ
side_named word =
    if bytes_eq word (codes "a") then Some 0
    else if bytes_eq word (codes "b") then Some 1
    else None

abbrev pub side_at : Members → Option ℕ
side_at ms = option_and_then side_named (text_at (codes "side") ms)

abbrev pub pair_with : Option ℤ → Option ℕ → Option WrittenObject
pair_with (Some pair) (Some side) = Some (By_pair pair side)
pair_with _ _ = None

abbrev pub path_with : Option (List ℕ) → Option Access → Option WrittenObject
path_with (Some path) (Some access) = Some (By_path path access)
path_with _ _ = None

abbrev pub pair_keys : List (List ℕ)
pair_keys = codes "number" ∷ codes "pair" ∷ codes "side" ∷ codes "rights" ∷ codes "fcntls" ∷ []

abbrev pub path_keys : List (List ℕ)
path_keys = codes "number" ∷ codes "path" ∷ codes "flags" ∷ codes "rights" ∷ codes "fcntls" ∷ []

abbrev pub pair_in : Members → Option WrittenObject
pair_in ms = if only_keys pair_keys ms then pair_with (integer_at (codes "pair") ms) (side_at ms) else None

abbrev pub path_written : Members → Option WrittenObject
path_written ms =
    if only_keys path_keys ms
    then path_with (text_at (codes "path") ms) (read_or reading access_in (get_member (codes "flags") ms))
    else None

abbrev pub object_by : Option Data → Members → Option WrittenObject
object_by None ms = path_written ms
object_by (Some pair) ms = pair_in ms

abbrev pub object_written : Members → Option WrittenObject
object_written ms = object_by (get_member (codes "pair") ms) ms

-- A descriptor has a number. All rights and commands are its own where no list says which.
abbrev pub descriptor_with : Option ℤ → Option WrittenObject → Option ℕ → Option ℕ → Option WrittenDescriptor
descriptor_with (Some number) (Some object) (Some rights) (Some fcntls) =
    Some (record { number = number; object = object; rights = rights; fcntls = fcntls })
descriptor_with _ _ _ _ = None

abbrev pub descriptor_in : Bool → Members → Option WrittenDescriptor
descriptor_in wide ms =
    descriptor_with (integer_at (codes "number") ms) (object_written ms)
    (read_or all_rights (rights_listed wide) (get_member (codes "rights") ms))
    (read_or all_commands (set_in command_names) (get_member (codes "fcntls") ms))

abbrev pub written_descriptor : Bool → Data → Option WrittenDescriptor
written_descriptor wide d = option_and_then (descriptor_in wide) (as_table d)

-- A process names its program, and lists its descriptors. It starts in capability mode if its mode is `cap`. (cap_enter(2))
abbrev pub mode_named : List ℕ → Option Bool
mode_named word =
    if bytes_eq word (codes "free") then Some false
    else if bytes_eq word (codes "cap") then Some true
    else None

abbrev pub mode_written : Data → Option Bool
mode_written d = option_and_then mode_named (as_str d)

-- a name's place among these
abbrev pub place_from : ℕ → List (List ℕ) → List ℕ → Option ℕ
place_from n [] word = None
place_from n (name ∷ names) word = if bytes_eq name word then Some n else place_from (n + 1) names word

abbrev pub place_among : List (List ℕ) → List ℕ → Option ℕ
place_among names word = place_from 0 names word

abbrev pub start_with : Option ℕ → Option Bool → Option (List WrittenDescriptor) → Option WrittenStart
start_with (Some program) (Some mode) (Some descriptors) =
    Some (record { program = program; mode = mode; descriptors = descriptors })
start_with _ _ _ = None

abbrev pub program_place : List (List ℕ) → Members → Option ℕ
program_place names ms = option_and_then (place_among names) (text_at (codes "program") ms)

abbrev pub descriptors_in : Bool → Members → Option (List WrittenDescriptor)
descriptors_in wide ms = option_and_then (each_item (written_descriptor wide)) (items_at (codes "fd") ms)

abbrev pub start_in : Bool → List (List ℕ) → Members → Option WrittenStart
start_in wide names ms =
    if only_keys (codes "program" ∷ codes "mode" ∷ codes "fd" ∷ []) ms
    then start_with (option_and_then (place_among names) (text_at (codes "program") ms))
    (read_or false mode_written (get_member (codes "mode") ms))
    (option_and_then (each_item (written_descriptor wide)) (items_at (codes "fd") ms))
    else None

abbrev pub written_start : Bool → List (List ℕ) → Data → Option WrittenStart
written_start wide names d = option_and_then (start_in wide names) (as_table d)

-- Names are given once, and there is a process. So there is a program too.
abbrev pub names_of_grants : List WrittenGrant → List (List ℕ)
names_of_grants grants = map (λ (g : WrittenGrant). g.name) grants

abbrev pub names_of_programs : List WrittenProgram → List (List ℕ)
names_of_programs programs = map (λ (p : WrittenProgram). p.name) programs

abbrev pub grants_once : List WrittenGrant → Option (List WrittenGrant)
grants_once grants = if are_once (names_of_grants grants) then Some grants else None

abbrev pub programs_once : List WrittenProgram → Option (List WrittenProgram)
programs_once programs = if are_once (names_of_programs programs) then Some programs else None

abbrev pub some_start : List WrittenStart → Option (List WrittenStart)
some_start starts = if length starts == 0 then None else Some starts

abbrev pub written_nodes : Members → Option (List WrittenNode)
written_nodes ms = option_and_then (each_item written_node) (items_at (codes "node") ms)

abbrev pub written_grants : Members → Option (List WrittenGrant)
written_grants ms =
    option_and_then grants_once (option_and_then (each_item written_grant) (items_at (codes "grant") ms))

abbrev pub written_programs : Members → Option (List WrittenProgram)
written_programs ms =
    option_and_then programs_once (option_and_then (each_item written_program) (items_at (codes "program") ms))

abbrev pub listed_starts : Bool → List (List ℕ) → Members → Option (List WrittenStart)
listed_starts wide names ms = option_and_then (each_item (written_start wide names)) (items_at (codes "process") ms)

abbrev pub written_starts : Bool → Members → List WrittenProgram → Option (List WrittenStart)
written_starts wide ms programs = option_and_then some_start (listed_starts wide (names_of_programs programs) ms)

abbrev pub task_with :
    Bool → Option (List WrittenNode) → Option (List WrittenGrant) → Option (List WrittenProgram) → Option (List WrittenStart)
    → Option WrittenTask
task_with wide (Some nodes) (Some grants) (Some programs) (Some starts) =
    Some (record { nodes = nodes; grants = grants; programs = programs; starts = starts; wide = wide })
task_with wide _ _ _ _ = None

-- A task asks for further rights where it says so.
abbrev pub asks_further : Members → Option Bool
asks_further ms = read_or false as_bool (get_member (codes "further_rights") ms)

abbrev pub task_in : Members → Bool → Option WrittenTask
task_in ms wide =
    task_with wide (written_nodes ms) (written_grants ms) (written_programs ms)
    (option_and_then (written_starts wide ms) (written_programs ms))

abbrev pub task_keys : List (List ℕ)
task_keys = codes "node" ∷ codes "grant" ∷ codes "program" ∷ codes "process" ∷ codes "further_rights" ∷ []

unfoldable pub written_task : Members → Option WrittenTask
written_task ms = if only_keys task_keys ms then option_and_then (task_in ms) (asks_further ms) else None
