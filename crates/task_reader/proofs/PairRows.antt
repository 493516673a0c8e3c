-- Descriptors on ends of socket pairs: what each document stands for.
use Rattle.std.proofs.Common.{◌≡◌, ℕ, ℤ, true, false, List, [], ◌∷◌, codes, refl, Ok, Err}
use Rattle.std.specs.Prelude.{pos, negsuc, replicate}
use Rattle.rights.specs.Sets.{all_rights, all_commands}
use Rattle.file_tree.specs.Places.{is_file_name, is_target}
use Rattle.file_tree.specs.Nodes.{node_at}
use Rattle.file_tree.specs.Refusals.{new_tree}
use Rattle.file_tree.specs.WellFormed.{is_within_limits}
use Rattle.instruction_set.specs.Programs.{Halt}
use Rattle.instruction_set.specs.Forms as forms
use Rattle.instruction_set.specs.Assembly.{assembly_in, line_read}
use Rattle.toml.specs.Data.{Data, string, integer, array, table, Members, no_members, member}
use Rattle.task.specs.Plans.{On_node, On_end, FirstDescriptor, Start, Plan, plan_with, unmarked}
use Rattle.task_reader.specs.Written.{written_task}
use Rattle.task_reader.specs.Paths.{place_of}
use Rattle.task_reader.specs.Reading.{can_stand, can_grant, can_open, Wrong_field, Wrong_grant, Wrong_descriptor, plan_of, plan_in}
use Rattle.task_reader.proofs.BaseTask.{document, grant, on, process, program, words, base_program}

-- the keys of a descriptor, in the order in which a table has them
abbrev number : ℕ → Members → Members
number n rest = member (codes "number") (integer (pos n)) rest

abbrev pair : ℤ → Members → Members
pair n rest = member (codes "pair") (integer n) rest

abbrev side : List ℕ → Members
side word = member (codes "side") (string word) no_members

abbrev rights : List (List ℕ) → Members → Members
rights names rest = member (codes "rights") (array (words names)) rest

abbrev paired : ℕ → ℤ → List ℕ → Data
paired n which word = table (number n (pair which (side word)))

-- A task of the root alone, with these first processes.
abbrev with_processes : List Data → Members
with_processes processes = document [] [] processes (base_program ∷ [])

abbrev with_descriptors : List Data → Members
with_descriptors descriptors = with_processes (process descriptors ∷ [])

abbrev with_keys : Members → Members
with_keys ms = with_descriptors (table ms ∷ [])

abbrev plan : List Start → Plan
plan starts = plan_with new_tree [] (unmarked (codes "main") (Halt ∷ []) ∷ []) starts

abbrev start : List FirstDescriptor → Start
start descriptors = record { program = 0; mode = false; descriptors = descriptors }

abbrev at_end : ℕ → ℕ → ℕ → FirstDescriptor
at_end number pair side =
    record { number = number; object = On_end pair side; rights = all_rights; fcntls = all_commands }

abbrev at_root : ℕ → FirstDescriptor
at_root number =
    record { number = number; object = On_node 0 (record { readable = true; writable = false }); rights = all_rights; fcntls = all_commands }

-- What is read: side a is 0, and b is 1. All rights and commands are there where no list says which.
both_ends : plan_in (with_descriptors (paired 0 (pos 0) (codes "a") ∷ paired 1 (pos 0) (codes "b") ∷ [])) ≡ Ok (plan (start (at_end 0 0 0 ∷ at_end 1 0 1 ∷ []) ∷ []))
unfolding can_stand can_grant can_open written_task plan_of plan_in place_of node_at is_within_limits is_file_name is_target assembly_in line_read forms.written_at
both_ends = refl

beside_a_node : plan_in (with_descriptors (on 2 (codes "/") ∷ paired 0 (pos 3) (codes "b") ∷ [])) ≡ Ok (plan (start (at_root 2 ∷ at_end 0 3 1 ∷ []) ∷ []))
unfolding can_stand can_grant can_open written_task plan_of plan_in place_of node_at is_within_limits is_file_name is_target assembly_in line_read forms.written_at
beside_a_node = refl

-- a side may stand in several descriptors of a process, and in those of several, at one number too
a_side_twice : plan_in (with_descriptors (paired 0 (pos 7) (codes "a") ∷ paired 1 (pos 7) (codes "a") ∷ [])) ≡ Ok (plan (start (at_end 0 7 0 ∷ at_end 1 7 0 ∷ []) ∷ []))
unfolding can_stand can_grant can_open written_task plan_of plan_in place_of node_at is_within_limits is_file_name is_target assembly_in line_read forms.written_at
a_side_twice = refl

a_side_in_two_processes : plan_in (with_processes
    (process (paired 0 (pos 0) (codes "a") ∷ []) ∷ process (paired 0 (pos 0) (codes "a") ∷ paired 1 (pos 0) (codes "b") ∷ []) ∷ [])) ≡ Ok
    (plan (start (at_end 0 0 0 ∷ []) ∷ start (at_end 0 0 0 ∷ at_end 1 0 1 ∷ []) ∷ []))
unfolding can_stand can_grant can_open written_task plan_of plan_in place_of node_at is_within_limits is_file_name is_target assembly_in line_read forms.written_at
a_side_in_two_processes = refl

abbrev said : Data
said =
    table (member (codes "fcntls") (array (words (codes "SETFL" ∷ [])))
    (number 15 (pair (pos 31) (rights (codes "SEND" ∷ codes "RECV" ∷ []) (side (codes "b"))))))

all_said : plan_in (with_descriptors (said ∷ [])) ≡ Ok (plan (start (record { number = 15; object = On_end 31 1; rights = 3; fcntls = 2 } ∷ []) ∷ []))
unfolding can_stand can_grant can_open written_task plan_of plan_in place_of node_at is_within_limits is_file_name is_target assembly_in line_read forms.written_at
all_said = refl

no_rights : plan_in (with_keys (number 0 (pair (pos 0) (rights [] (side (codes "a")))))) ≡ Ok (plan (start (record { number = 0; object = On_end 0 0; rights = 0; fcntls = all_commands } ∷ []) ∷ []))
unfolding can_stand can_grant can_open written_task plan_of plan_in place_of node_at is_within_limits is_file_name is_target assembly_in line_read forms.written_at
no_rights = refl

-- fields
flags_beside_a_pair : plan_in (with_keys (member (codes "flags") (array (words (codes "read" ∷ []))) (number 0 (pair (pos 0) (side (codes "a")))))) ≡ Err Wrong_field
unfolding can_stand can_grant can_open written_task plan_of plan_in place_of node_at is_within_limits is_file_name is_target assembly_in line_read forms.written_at
flags_beside_a_pair = refl

a_path_beside_a_pair : plan_in (with_keys (number 0 (pair (pos 0) (member (codes "path") (string (codes "/")) (side (codes "a")))))) ≡ Err Wrong_field
unfolding can_stand can_grant can_open written_task plan_of plan_in place_of node_at is_within_limits is_file_name is_target assembly_in line_read forms.written_at
a_path_beside_a_pair = refl

a_path_beside_a_pair_alone : plan_in (with_keys (number 0 (pair (pos 0) (member (codes "path") (string (codes "/")) no_members)))) ≡ Err Wrong_field
unfolding can_stand can_grant can_open written_task plan_of plan_in place_of node_at is_within_limits is_file_name is_target assembly_in line_read forms.written_at
a_path_beside_a_pair_alone = refl

a_side_beside_a_path : plan_in (with_keys (number 0 (member (codes "path") (string (codes "/")) (side (codes "a"))))) ≡ Err Wrong_field
unfolding can_stand can_grant can_open written_task plan_of plan_in place_of node_at is_within_limits is_file_name is_target assembly_in line_read forms.written_at
a_side_beside_a_path = refl

a_side_without_a_pair : plan_in (with_keys (number 0 (side (codes "a")))) ≡ Err Wrong_field
unfolding can_stand can_grant can_open written_task plan_of plan_in place_of node_at is_within_limits is_file_name is_target assembly_in line_read forms.written_at
a_side_without_a_pair = refl

a_pair_without_a_side : plan_in (with_keys (number 0 (pair (pos 0) no_members))) ≡ Err Wrong_field
unfolding can_stand can_grant can_open written_task plan_of plan_in place_of node_at is_within_limits is_file_name is_target assembly_in line_read forms.written_at
a_pair_without_a_side = refl

a_number_alone : plan_in (with_keys (number 0 no_members)) ≡ Err Wrong_field
unfolding can_stand can_grant can_open written_task plan_of plan_in place_of node_at is_within_limits is_file_name is_target assembly_in line_read forms.written_at
a_number_alone = refl

a_pair_without_a_number : plan_in (with_keys (pair (pos 0) (side (codes "a")))) ≡ Err Wrong_field
unfolding can_stand can_grant can_open written_task plan_of plan_in place_of node_at is_within_limits is_file_name is_target assembly_in line_read forms.written_at
a_pair_without_a_number = refl

another_key_beside_a_pair : plan_in (with_keys (member (codes "mode") (string (codes "cap")) (number 0 (pair (pos 0) (side (codes "a")))))) ≡ Err Wrong_field
unfolding can_stand can_grant can_open written_task plan_of plan_in place_of node_at is_within_limits is_file_name is_target assembly_in line_read forms.written_at
another_key_beside_a_pair = refl

another_side : plan_in (with_descriptors (paired 0 (pos 0) (codes "c") ∷ [])) ≡ Err Wrong_field
unfolding can_stand can_grant can_open written_task plan_of plan_in place_of node_at is_within_limits is_file_name is_target assembly_in line_read forms.written_at
another_side = refl

a_great_letter : plan_in (with_descriptors (paired 0 (pos 0) (codes "A") ∷ [])) ≡ Err Wrong_field
unfolding can_stand can_grant can_open written_task plan_of plan_in place_of node_at is_within_limits is_file_name is_target assembly_in line_read forms.written_at
a_great_letter = refl

no_letter : plan_in (with_descriptors (paired 0 (pos 0) [] ∷ [])) ≡ Err Wrong_field
unfolding can_stand can_grant can_open written_task plan_of plan_in place_of node_at is_within_limits is_file_name is_target assembly_in line_read forms.written_at
no_letter = refl

a_side_by_number : plan_in (with_keys (number 0 (pair (pos 0) (member (codes "side") (integer (pos 0)) no_members)))) ≡ Err Wrong_field
unfolding can_stand can_grant can_open written_task plan_of plan_in place_of node_at is_within_limits is_file_name is_target assembly_in line_read forms.written_at
a_side_by_number = refl

a_pair_as_a_text : plan_in (with_keys (number 0 (member (codes "pair") (string (codes "0")) (side (codes "a"))))) ≡ Err Wrong_field
unfolding can_stand can_grant can_open written_task plan_of plan_in place_of node_at is_within_limits is_file_name is_target assembly_in line_read forms.written_at
a_pair_as_a_text = refl

a_right_twice : plan_in (with_keys (number 0 (pair (pos 0) (rights (codes "READ" ∷ codes "READ" ∷ []) (side (codes "a")))))) ≡ Err Wrong_field
unfolding can_stand can_grant can_open written_task plan_of plan_in place_of node_at is_within_limits is_file_name is_target assembly_in line_read forms.written_at
a_right_twice = refl

a_command_unknown : plan_in (with_keys (member (codes "fcntls") (array (words (codes "DUPFD" ∷ []))) (number 0 (pair (pos 0) (side (codes "a")))))) ≡ Err Wrong_field
unfolding can_stand can_grant can_open written_task plan_of plan_in place_of node_at is_within_limits is_file_name is_target assembly_in line_read forms.written_at
a_command_unknown = refl

-- descriptors
pair_32 : plan_in (with_descriptors (paired 0 (pos 32) (codes "a") ∷ [])) ≡ Err Wrong_descriptor
unfolding can_stand can_grant can_open written_task plan_of plan_in place_of node_at is_within_limits is_file_name is_target assembly_in line_read forms.written_at
pair_32 = refl

a_pair_below_0 : plan_in (with_descriptors (paired 0 (negsuc 0) (codes "a") ∷ [])) ≡ Err Wrong_descriptor
unfolding can_stand can_grant can_open written_task plan_of plan_in place_of node_at is_within_limits is_file_name is_target assembly_in line_read forms.written_at
a_pair_below_0 = refl

number_16 : plan_in (with_descriptors (paired 16 (pos 0) (codes "a") ∷ [])) ≡ Err Wrong_descriptor
unfolding can_stand can_grant can_open written_task plan_of plan_in place_of node_at is_within_limits is_file_name is_target assembly_in line_read forms.written_at
number_16 = refl

a_number_below_0 : plan_in (with_keys (member (codes "number") (integer (negsuc 0)) (pair (pos 0) (side (codes "a"))))) ≡ Err Wrong_descriptor
unfolding can_stand can_grant can_open written_task plan_of plan_in place_of node_at is_within_limits is_file_name is_target assembly_in line_read forms.written_at
a_number_below_0 = refl

a_number_twice : plan_in (with_descriptors (on 0 (codes "/") ∷ paired 0 (pos 0) (codes "a") ∷ [])) ≡ Err Wrong_descriptor
unfolding can_stand can_grant can_open written_task plan_of plan_in place_of node_at is_within_limits is_file_name is_target assembly_in line_read forms.written_at
a_number_twice = refl

a_number_of_two_sides : plan_in (with_descriptors (paired 3 (pos 0) (codes "a") ∷ on 0 (codes "/") ∷ paired 3 (pos 0) (codes "b") ∷ [])) ≡ Err Wrong_descriptor
unfolding can_stand can_grant can_open written_task plan_of plan_in place_of node_at is_within_limits is_file_name is_target assembly_in line_read forms.written_at
a_number_of_two_sides = refl

a_descriptor_twice : plan_in (with_descriptors (paired 3 (pos 0) (codes "a") ∷ paired 3 (pos 0) (codes "a") ∷ [])) ≡ Err Wrong_descriptor
unfolding can_stand can_grant can_open written_task plan_of plan_in place_of node_at is_within_limits is_file_name is_target assembly_in line_read forms.written_at
a_descriptor_twice = refl

-- the least fault is told
a_field_before_a_pair : plan_in (with_processes (process (paired 0 (pos 32) (codes "a") ∷ []) ∷ process (paired 0 (pos 0) (codes "c") ∷ []) ∷ [])) ≡ Err Wrong_field
unfolding can_stand can_grant can_open written_task plan_of plan_in place_of node_at is_within_limits is_file_name is_target assembly_in line_read forms.written_at
a_field_before_a_pair = refl

a_grant_before_a_pair : plan_in (document [] (grant (codes "gone") (codes "/gone") [] ∷ []) (process (paired 0 (pos 32) (codes "a") ∷ []) ∷ []) (base_program ∷ [])) ≡ Err Wrong_grant
unfolding can_stand can_grant can_open written_task plan_of plan_in place_of node_at is_within_limits is_file_name is_target assembly_in line_read forms.written_at
a_grant_before_a_pair = refl

a_pair_before_a_program : plan_in (document [] [] (process (paired 0 (pos 32) (codes "a") ∷ []) ∷ []) (program (codes "main") (codes "frob") ∷ [])) ≡ Err Wrong_descriptor
unfolding can_stand can_grant can_open written_task plan_of plan_in place_of node_at is_within_limits is_file_name is_target assembly_in line_read forms.written_at
a_pair_before_a_program = refl

a_pair_before_seventeen_processes : plan_in (with_processes (process (paired 0 (pos 32) (codes "a") ∷ []) ∷ replicate 16 (process []))) ≡ Err Wrong_descriptor
unfolding can_stand can_grant can_open written_task plan_of plan_in place_of node_at is_within_limits is_file_name is_target assembly_in line_read forms.written_at
a_pair_before_seventeen_processes = refl
