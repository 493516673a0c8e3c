-- The base task, and changes of it: what each document stands for.
use Rattle.std.proofs.Common.{◌++◌, Bool, ◌≡◌, ℕ, true, false, List, [], ◌∷◌, codes, refl, Result, Ok, Err, map}
use Rattle.std.specs.Prelude.{pos, replicate}
use Rattle.std.specs.Str.{is_utf8, chars}
use Rattle.rights.specs.Sets.{all_rights, all_commands}
use Rattle.rights.specs.Operations.{Look, Read, Write, Create, Remove}
use Rattle.file_tree.specs.Places.{is_file_name, is_target}
use Rattle.file_tree.specs.Nodes.{node_at}
use Rattle.file_tree.specs.Refusals.{created}
use Rattle.file_tree.specs.WellFormed.{is_within_limits}
use Rattle.instruction_set.specs.Programs.{Halt, Invoke, Fork, Number}
use Rattle.instruction_set.specs.Programs as programs
use Rattle.instruction_set.specs.Forms as forms
use Rattle.instruction_set.specs.Assembly.{assembly_in, line_read, fault, Word, FallsOff}
use Rattle.kernel.proofs.Samples.{base}
use Rattle.toml.specs.Data.{Data, string, integer, boolean, array, table, Members, no_members, member}
use Rattle.toml.proofs.OnLiterals.{toml_on_literals}
use Rattle.task.specs.Plans.{Grant, NamedProgram, On_node, FirstDescriptor, Plan, plan_with, unmarked}
use Rattle.task_reader.specs.Written.{written_task}
use Rattle.task_reader.specs.Paths.{place_of}
use Rattle.task_reader.specs.Reading.{Mistake, can_stand, can_grant, can_open, Not_toml, Wrong_field, Wrong_node, Wrong_grant, Wrong_descriptor, Wrong_program, Past_limit, plan_of, plan_in, task_of}
use Rattle.task_reader.proofs.BaseTask.{base_text, base_document, document, directory, file, link, grant, on, process, program, words, base_nodes, base_grants, base_process}
use Rattle.task_reader.proofs.BaseTask.{base_program, base_is_read, list}

abbrev on_node : ℕ → ℕ → FirstDescriptor
on_node number n =
    record { number = number; object = On_node n (record { readable = true; writable = false }); rights = all_rights; fcntls = all_commands }

abbrev work : Grant
work = record { name = codes "work"; path = codes "work" ∷ []; operations = Look ∷ Read ∷ [] }

abbrev log : Grant
log = record { name = codes "log"; path = codes "log" ∷ []; operations = Create ∷ Write ∷ Remove ∷ [] }

abbrev base_plan : Plan
base_plan =
    plan_with base (work ∷ log ∷ []) (unmarked (codes "main") (Halt ∷ []) ∷ [])
    (record { program = 0; mode = false; descriptors = on_node 0 1 ∷ on_node 1 9 ∷ [] } ∷ [])

base_stands : plan_in base_document ≡ Ok base_plan
unfolding base created can_stand can_grant can_open written_task plan_of plan_in place_of node_at is_within_limits is_file_name is_target assembly_in line_read forms.written_at
base_stands = refl

text_stands : task_of base_text ≡ Ok base_plan
unfolding task_of is_utf8 chars lib.Utf8.encode plan_in
text_stands = rw base_is_read base_stands

no_text : task_of (255 ∷ []) ≡ Err Not_toml
unfolding task_of is_utf8 chars
no_text = refl

no_document : task_of (codes "node = [") ≡ Err Not_toml
unfolding task_of is_utf8 chars toml_on_literals
no_document = refl

abbrev with_nodes : List Data → Members
with_nodes nodes = document nodes base_grants (base_process ∷ []) (base_program ∷ [])

abbrev with_grants : List Data → Members
with_grants grants = document base_nodes grants (base_process ∷ []) (base_program ∷ [])

abbrev with_processes : List Data → Members
with_processes processes = document base_nodes base_grants processes (base_program ∷ [])

abbrev with_programs : List Data → Members
with_programs programs = document base_nodes base_grants (base_process ∷ []) programs

abbrev flagged : ℕ → List ℕ → List (List ℕ) → Data
flagged number path flags =
    table (member (codes "flags") (array (words flags)) (member (codes "number") (integer (pos number)) (member (codes "path") (string path) no_members)))

abbrev with_descriptor : Data → Members
with_descriptor d = with_processes (process (d ∷ []) ∷ [])

abbrev owned : Data
owned =
    table (member (codes "kind") (string (codes "dir")) (member (codes "owner") (string (codes "root")) (member (codes "path") (string (codes "/work")) no_members)))

abbrev work_directory : Data
work_directory = directory (codes "/work")

abbrev long : ℕ → List ℕ
long n = replicate n 97

abbrev long_path : ℕ → List ℕ
long_path n = 47 ∷ long n

abbrev same_path : List ℕ
same_path = codes "/work/same"

an_owner : plan_in (with_nodes (owned ∷ [])) ≡ Err Wrong_field
unfolding base created can_stand can_grant can_open written_task plan_of plan_in place_of node_at is_within_limits is_file_name is_target assembly_in line_read forms.written_at
an_owner = refl

an_empty_document : plan_in (no_members) ≡ Err Wrong_field
unfolding base created can_stand can_grant can_open written_task plan_of plan_in place_of node_at is_within_limits is_file_name is_target assembly_in line_read forms.written_at
an_empty_document = refl

a_directory_with_content : plan_in (with_nodes
    (table (member (codes "content") (string [])
    (member (codes "kind") (string (codes "dir")) (member (codes "path") (string (codes "/work")) no_members))) ∷ [])) ≡ Err Wrong_field
unfolding base created can_stand can_grant can_open written_task plan_of plan_in place_of node_at is_within_limits is_file_name is_target assembly_in line_read forms.written_at
a_directory_with_content = refl

a_file_without_content : plan_in (with_nodes (table (member (codes "kind") (string (codes "file")) (member (codes "path") (string (codes "/work")) no_members)) ∷ [])) ≡ Err Wrong_field
unfolding base created can_stand can_grant can_open written_task plan_of plan_in place_of node_at is_within_limits is_file_name is_target assembly_in line_read forms.written_at
a_file_without_content = refl

a_word_twice : plan_in (with_grants (grant (codes "work") (codes "/work") (codes "look" ∷ codes "look" ∷ []) ∷ [])) ≡ Err Wrong_field
unfolding base created can_stand can_grant can_open written_task plan_of plan_in place_of node_at is_within_limits is_file_name is_target assembly_in line_read forms.written_at
a_word_twice = refl

an_unknown_word : plan_in (with_grants (grant (codes "work") (codes "/work") (codes "list" ∷ []) ∷ [])) ≡ Err Wrong_field
unfolding base created can_stand can_grant can_open written_task plan_of plan_in place_of node_at is_within_limits is_file_name is_target assembly_in line_read forms.written_at
an_unknown_word = refl

a_wrong_name : plan_in (with_grants (grant (codes "Work") (codes "/work") [] ∷ [])) ≡ Err Wrong_field
unfolding base created can_stand can_grant can_open written_task plan_of plan_in place_of node_at is_within_limits is_file_name is_target assembly_in line_read forms.written_at
a_wrong_name = refl

a_name_of_17_letters : plan_in (with_grants (grant (long 17) (codes "/work") [] ∷ [])) ≡ Err Wrong_field
unfolding base created can_stand can_grant can_open written_task plan_of plan_in place_of node_at is_within_limits is_file_name is_target assembly_in line_read forms.written_at
a_name_of_17_letters = refl

a_grant_name_twice : plan_in (with_grants (grant (codes "work") (codes "/work") [] ∷ grant (codes "work") (codes "/log") [] ∷ [])) ≡ Err Wrong_field
unfolding base created can_stand can_grant can_open written_task plan_of plan_in place_of node_at is_within_limits is_file_name is_target assembly_in line_read forms.written_at
a_grant_name_twice = refl

a_program_name_twice : plan_in (with_programs (base_program ∷ base_program ∷ [])) ≡ Err Wrong_field
unfolding base created can_stand can_grant can_open written_task plan_of plan_in place_of node_at is_within_limits is_file_name is_target assembly_in line_read forms.written_at
a_program_name_twice = refl

no_program : plan_in (with_programs []) ≡ Err Wrong_field
unfolding base created can_stand can_grant can_open written_task plan_of plan_in place_of node_at is_within_limits is_file_name is_target assembly_in line_read forms.written_at
no_program = refl

no_process : plan_in (with_processes []) ≡ Err Wrong_field
unfolding base created can_stand can_grant can_open written_task plan_of plan_in place_of node_at is_within_limits is_file_name is_target assembly_in line_read forms.written_at
no_process = refl

another_program : plan_in (with_programs (program (codes "other") (codes "halt") ∷ [])) ≡ Err Wrong_field
unfolding base created can_stand can_grant can_open written_task plan_of plan_in place_of node_at is_within_limits is_file_name is_target assembly_in line_read forms.written_at
another_program = refl

no_flags : plan_in (with_descriptor (flagged 0 (codes "/log") [])) ≡ Err Wrong_field
unfolding base created can_stand can_grant can_open written_task plan_of plan_in place_of node_at is_within_limits is_file_name is_target assembly_in line_read forms.written_at
no_flags = refl

children_first : plan_in (with_nodes (file (codes "/work/in") (codes "AB") ∷ work_directory ∷ [])) ≡ Err Wrong_node
unfolding base created can_stand can_grant can_open written_task plan_of plan_in place_of node_at is_within_limits is_file_name is_target assembly_in line_read forms.written_at
children_first = refl

the_root_listed : plan_in (with_nodes (directory (codes "/") ∷ base_nodes)) ≡ Err Wrong_node
unfolding base created can_stand can_grant can_open written_task plan_of plan_in place_of node_at is_within_limits is_file_name is_target assembly_in line_read forms.written_at
the_root_listed = refl

a_place_twice : plan_in (with_nodes (work_directory ∷ work_directory ∷ base_nodes)) ≡ Err Wrong_node
unfolding base created can_stand can_grant can_open written_task plan_of plan_in place_of node_at is_within_limits is_file_name is_target assembly_in line_read forms.written_at
a_place_twice = refl

a_slash_at_the_end : plan_in (with_nodes (directory (codes "/work/") ∷ base_nodes)) ≡ Err Wrong_node
unfolding base created can_stand can_grant can_open written_task plan_of plan_in place_of node_at is_within_limits is_file_name is_target assembly_in line_read forms.written_at
a_slash_at_the_end = refl

two_slashes : plan_in (with_nodes (directory (codes "//work") ∷ base_nodes)) ≡ Err Wrong_node
unfolding base created can_stand can_grant can_open written_task plan_of plan_in place_of node_at is_within_limits is_file_name is_target assembly_in line_read forms.written_at
two_slashes = refl

a_relative_path : plan_in (with_nodes (directory (codes "work") ∷ base_nodes)) ≡ Err Wrong_node
unfolding base created can_stand can_grant can_open written_task plan_of plan_in place_of node_at is_within_limits is_file_name is_target assembly_in line_read forms.written_at
a_relative_path = refl

no_path : plan_in (with_nodes (directory [] ∷ base_nodes)) ≡ Err Wrong_node
unfolding base created can_stand can_grant can_open written_task plan_of plan_in place_of node_at is_within_limits is_file_name is_target assembly_in line_read forms.written_at
no_path = refl

dots : plan_in (with_nodes (directory (codes "/..") ∷ base_nodes)) ≡ Err Wrong_node
unfolding base created can_stand can_grant can_open written_task plan_of plan_in place_of node_at is_within_limits is_file_name is_target assembly_in line_read forms.written_at
dots = refl

in_a_file : plan_in (with_nodes (file (codes "/f") [] ∷ file (codes "/f/g") [] ∷ base_nodes)) ≡ Err Wrong_node
unfolding base created can_stand can_grant can_open written_task plan_of plan_in place_of node_at is_within_limits is_file_name is_target assembly_in line_read forms.written_at
in_a_file = refl

a_grant_on_a_link : plan_in (with_grants (grant (codes "same") same_path [] ∷ [])) ≡ Err Wrong_grant
unfolding base created can_stand can_grant can_open written_task plan_of plan_in place_of node_at is_within_limits is_file_name is_target assembly_in line_read forms.written_at
a_grant_on_a_link = refl

a_grant_nowhere : plan_in (with_grants (grant (codes "gone") (codes "/gone") [] ∷ [])) ≡ Err Wrong_grant
unfolding base created can_stand can_grant can_open written_task plan_of plan_in place_of node_at is_within_limits is_file_name is_target assembly_in line_read forms.written_at
a_grant_nowhere = refl

a_grant_in_another : plan_in (with_grants (grant (codes "work") (codes "/work") [] ∷ grant (codes "out") (codes "/work/out") [] ∷ [])) ≡ Err Wrong_grant
unfolding base created can_stand can_grant can_open written_task plan_of plan_in place_of node_at is_within_limits is_file_name is_target assembly_in line_read forms.written_at
a_grant_in_another = refl

a_grant_around_another : plan_in (with_grants (grant (codes "out") (codes "/work/out") [] ∷ grant (codes "root") (codes "/") [] ∷ [])) ≡ Err Wrong_grant
unfolding base created can_stand can_grant can_open written_task plan_of plan_in place_of node_at is_within_limits is_file_name is_target assembly_in line_read forms.written_at
a_grant_around_another = refl

a_descriptor_on_a_link : plan_in (with_descriptor (on 0 same_path)) ≡ Err Wrong_descriptor
unfolding base created can_stand can_grant can_open written_task plan_of plan_in place_of node_at is_within_limits is_file_name is_target assembly_in line_read forms.written_at
a_descriptor_on_a_link = refl

a_directory_written : plan_in (with_descriptor (flagged 1 (codes "/log") (codes "write" ∷ []))) ≡ Err Wrong_descriptor
unfolding base created can_stand can_grant can_open written_task plan_of plan_in place_of node_at is_within_limits is_file_name is_target assembly_in line_read forms.written_at
a_directory_written = refl

number_16 : plan_in (with_descriptor (on 16 (codes "/work"))) ≡ Err Wrong_descriptor
unfolding base created can_stand can_grant can_open written_task plan_of plan_in place_of node_at is_within_limits is_file_name is_target assembly_in line_read forms.written_at
number_16 = refl

a_number_twice : plan_in (with_processes (process (on 0 (codes "/work") ∷ on 0 (codes "/log") ∷ []) ∷ [])) ≡ Err Wrong_descriptor
unfolding base created can_stand can_grant can_open written_task plan_of plan_in place_of node_at is_within_limits is_file_name is_target assembly_in line_read forms.written_at
a_number_twice = refl

no_such_node : plan_in (with_descriptor (on 0 (codes "/gone"))) ≡ Err Wrong_descriptor
unfolding base created can_stand can_grant can_open written_task plan_of plan_in place_of node_at is_within_limits is_file_name is_target assembly_in line_read forms.written_at
no_such_node = refl

an_unknown_instruction : plan_in (with_programs (program (codes "main") (codes "frob") ∷ [])) ≡ Err (Wrong_program (codes "main") (fault Word 1))
unfolding base created can_stand can_grant can_open written_task plan_of plan_in place_of node_at is_within_limits is_file_name is_target assembly_in line_read forms.written_at
an_unknown_instruction = refl

the_first_wrong_program : plan_in (with_programs (base_program ∷ program (codes "b") (codes "halt\nfrob") ∷ program (codes "a") (codes "frob") ∷ [])) ≡ Err (Wrong_program (codes "b") (fault Word 2))
unfolding base created can_stand can_grant can_open written_task plan_of plan_in place_of node_at is_within_limits is_file_name is_target assembly_in line_read forms.written_at
the_first_wrong_program = refl

a_file_of_4097_bytes : plan_in (with_nodes (work_directory ∷ file (codes "/work/in") (long 4097) ∷ directory (codes "/log") ∷ [])) ≡ Err Past_limit
unfolding base created can_stand can_grant can_open written_task plan_of plan_in place_of node_at is_within_limits is_file_name is_target assembly_in line_read forms.written_at
a_file_of_4097_bytes = refl

an_empty_target : plan_in (with_nodes (work_directory ∷ link (codes "/work/in") [] ∷ directory (codes "/log") ∷ [])) ≡ Err Past_limit
unfolding base created can_stand can_grant can_open written_task plan_of plan_in place_of node_at is_within_limits is_file_name is_target assembly_in line_read forms.written_at
an_empty_target = refl

a_long_name : plan_in (with_nodes (work_directory ∷ directory (codes "/log") ∷ directory (long_path 256) ∷ [])) ≡ Err Past_limit
unfolding base created can_stand can_grant can_open written_task plan_of plan_in place_of node_at is_within_limits is_file_name is_target assembly_in line_read forms.written_at
a_long_name = refl

nine_programs : plan_in (with_programs (base_program ∷ program (codes "b") (codes "halt") ∷ program (codes "c") (codes "halt")
    ∷ program (codes "d") (codes "halt") ∷ program (codes "e") (codes "halt") ∷ program (codes "f") (codes "halt")
    ∷ program (codes "g") (codes "halt") ∷ program (codes "h") (codes "halt") ∷ program (codes "i") (codes "halt") ∷ [])) ≡ Err Past_limit
unfolding base created can_stand can_grant can_open written_task plan_of plan_in place_of node_at is_within_limits is_file_name is_target assembly_in line_read forms.written_at
nine_programs = refl

a_wrong_program_before_limits : plan_in (document (work_directory ∷ file (codes "/work/in") (long 4097) ∷ directory (codes "/log") ∷ []) base_grants
    (base_process ∷ []) (program (codes "main") [] ∷ [])) ≡ Err (Wrong_program (codes "main") (fault FallsOff 1))
unfolding base created can_stand can_grant can_open written_task plan_of plan_in place_of node_at is_within_limits is_file_name is_target assembly_in line_read forms.written_at
a_wrong_program_before_limits = refl

a_descriptor_before_limits : plan_in (document (work_directory ∷ file (codes "/work/in") (long 4097) ∷ directory (codes "/log") ∷ []) base_grants
    (process (flagged 1 (codes "/log") (codes "write" ∷ []) ∷ []) ∷ []) (base_program ∷ [])) ≡ Err Wrong_descriptor
unfolding base created can_stand can_grant can_open written_task plan_of plan_in place_of node_at is_within_limits is_file_name is_target assembly_in line_read forms.written_at
a_descriptor_before_limits = refl

a_descriptor_before_a_program : plan_in (document base_nodes base_grants (process (on 0 same_path ∷ []) ∷ []) (program (codes "main") (codes "frob") ∷ [])) ≡ Err Wrong_descriptor
unfolding base created can_stand can_grant can_open written_task plan_of plan_in place_of node_at is_within_limits is_file_name is_target assembly_in line_read forms.written_at
a_descriptor_before_a_program = refl

a_grant_before_a_descriptor : plan_in (document base_nodes (grant (codes "same") same_path [] ∷ []) (process (on 0 same_path ∷ []) ∷ []) (base_program ∷ [])) ≡ Err Wrong_grant
unfolding base created can_stand can_grant can_open written_task plan_of plan_in place_of node_at is_within_limits is_file_name is_target assembly_in line_read forms.written_at
a_grant_before_a_descriptor = refl

a_node_before_a_grant : plan_in (document (work_directory ∷ work_directory ∷ []) (grant (codes "same") same_path [] ∷ []) (base_process ∷ []) (base_program ∷ [])) ≡ Err Wrong_node
unfolding base created can_stand can_grant can_open written_task plan_of plan_in place_of node_at is_within_limits is_file_name is_target assembly_in line_read forms.written_at
a_node_before_a_grant = refl

a_field_before_a_node : plan_in (document (work_directory ∷ work_directory ∷ owned ∷ []) base_grants (base_process ∷ []) (base_program ∷ [])) ≡ Err Wrong_field
unfolding base created can_stand can_grant can_open written_task plan_of plan_in place_of node_at is_within_limits is_file_name is_target assembly_in line_read forms.written_at
a_field_before_a_node = refl

-- A process in capability mode, with a descriptor of which all is said.
abbrev said : Data
said =
    table (member (codes "fcntls") (array (words []))
    (member (codes "flags") (array (words (codes "write" ∷ codes "read" ∷ [])))
    (member (codes "number") (integer (pos 15))
    (member (codes "path") (string (codes "/work/in"))
    (member (codes "rights") (array (words (codes "SEND" ∷ codes "READ" ∷ codes "RECV" ∷ []))) no_members)))))

abbrev capable : Data
capable =
    table (member (codes "fd") (array (list (said ∷ on 0 (codes "/") ∷ [])))
    (member (codes "mode") (string (codes "cap")) (member (codes "program") (string (codes "main")) no_members)))

abbrev said_plan : Plan
said_plan =
    plan_with base [] (unmarked (codes "main") (Halt ∷ []) ∷ [])
    (record {
      program = 0;
      mode = true;
      descriptors = record { number = 15; object = On_node 2 (record { readable = true; writable = true }); rights = 3; fcntls = 0 } ∷ on_node 0 0 ∷ [];
    } ∷ [])

all_said : plan_in (document base_nodes [] (capable ∷ []) (base_program ∷ [])) ≡ Ok said_plan
unfolding base created can_stand can_grant can_open written_task plan_of plan_in place_of node_at is_within_limits is_file_name is_target assembly_in line_read forms.written_at
all_said = refl

-- Paths of 1023 and of 1024 bytes.
abbrev deep : ℕ → List Data
deep last =
    let a = long_path 255 in
    let b = a ++ long_path 255 in
    let c = b ++ long_path 255 in
    directory a ∷ directory b ∷ directory c ∷ directory (c ++ long_path last) ∷ []

abbrev alone : List Data → Members
alone nodes = document nodes [] (process [] ∷ []) (base_program ∷ [])

abbrev is_read : Result Plan Mistake → Bool
is_read (Ok plan) = true
is_read (Err mistake) = false

a_path_of_1023_bytes : is_read (plan_in (alone (deep 254))) ≡ true
unfolding base created can_stand can_grant can_open written_task plan_of plan_in place_of node_at is_within_limits is_file_name is_target assembly_in line_read forms.written_at
a_path_of_1023_bytes = refl

a_path_of_1024_bytes : plan_in (alone (deep 255)) ≡ Err Past_limit
unfolding base created can_stand can_grant can_open written_task plan_of plan_in place_of node_at is_within_limits is_file_name is_target assembly_in line_read forms.written_at
a_path_of_1024_bytes = refl

-- Two processes of two programs, the second in capability mode.
abbrev child_process : Data
child_process =
    table (member (codes "fd") (array (list (on 3 (codes "/work/in") ∷ [])))
    (member (codes "mode") (string (codes "cap")) (member (codes "program") (string (codes "child")) no_members)))

abbrev two_plan : Plan
two_plan =
    plan_with base (work ∷ log ∷ [])
    (unmarked (codes "child") (Invoke (programs.Read (Number 3)) 1 ∷ Halt ∷ []) ∷ unmarked (codes "main") (Invoke Fork 1 ∷ Halt ∷ []) ∷ [])
    (record { program = 1; mode = false; descriptors = on_node 0 1 ∷ on_node 1 9 ∷ [] }
    ∷ record { program = 0; mode = true; descriptors = on_node 3 2 ∷ [] } ∷ [])

two_processes : plan_in (document base_nodes base_grants (base_process ∷ child_process ∷ [])
    (program (codes "child") (codes "read 3 else e\ne: halt") ∷ program (codes "main") (codes "fork else e\ne: halt") ∷ [])) ≡ Ok two_plan
unfolding base created can_stand can_grant can_open written_task plan_of plan_in
    place_of node_at is_within_limits is_file_name is_target assembly_in line_read forms.written_at forms.syscall_at forms.operand_at forms.else_at
    forms.label_at
two_processes = refl

-- Each process has a table of its own: a number may stand in several.
sixteen_processes : is_read (plan_in (with_processes (replicate 16 base_process))) ≡ true
unfolding base created can_stand can_grant can_open written_task plan_of plan_in place_of node_at is_within_limits is_file_name is_target assembly_in line_read forms.written_at
sixteen_processes = refl

seventeen_processes : plan_in (with_processes (replicate 17 base_process)) ≡ Err Past_limit
unfolding base created can_stand can_grant can_open written_task plan_of plan_in place_of node_at is_within_limits is_file_name is_target assembly_in line_read forms.written_at
seventeen_processes = refl

-- a wrong descriptor of the last process is told before the limit
a_descriptor_before_seventeen_processes : plan_in (with_processes (replicate 16 base_process ++ process (on 16 (codes "/work") ∷ []) ∷ [])) ≡ Err Wrong_descriptor
unfolding base created can_stand can_grant can_open written_task plan_of plan_in place_of node_at is_within_limits is_file_name is_target assembly_in line_read forms.written_at
a_descriptor_before_seventeen_processes = refl

-- A program is marked where a truth value says that it is untrusted; nothing else may say so.
abbrev said_of : Data → Members
said_of value = with_programs (table (member (codes "code") (string (codes "halt\n")) (member (codes "name") (string (codes "main"))
    (member (codes "untrusted") value no_members))) ∷ [])

abbrev marks : Result Plan Mistake → List Bool
marks (Ok plan) = map (λ (p : NamedProgram). p.marked) plan.programs
marks (Err mistake) = []

a_program_said_to_be_untrusted : marks (plan_in (said_of (boolean true))) ≡ true ∷ []
unfolding base created can_stand can_grant can_open written_task plan_of plan_in place_of node_at is_within_limits is_file_name is_target assembly_in line_read forms.written_at
a_program_said_to_be_untrusted = refl

a_program_said_not_to_be : marks (plan_in (said_of (boolean false))) ≡ false ∷ []
unfolding base created can_stand can_grant can_open written_task plan_of plan_in place_of node_at is_within_limits is_file_name is_target assembly_in line_read forms.written_at
a_program_said_not_to_be = refl

a_word_that_says_it : plan_in (said_of (string (codes "true"))) ≡ Err Wrong_field
unfolding base created can_stand can_grant can_open written_task plan_of plan_in place_of node_at is_within_limits is_file_name is_target assembly_in line_read forms.written_at
a_word_that_says_it = refl

a_number_that_says_it : plan_in (said_of (integer (pos 1))) ≡ Err Wrong_field
unfolding base created can_stand can_grant can_open written_task plan_of plan_in place_of node_at is_within_limits is_file_name is_target assembly_in line_read forms.written_at
a_number_that_says_it = refl
