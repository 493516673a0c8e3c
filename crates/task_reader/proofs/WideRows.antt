-- Tasks that ask for further rights: what each document stands for.
use Rattle.std.proofs.Common.{◌≡◌, ◌+◌, ◌++◌, ℕ, Bool, true, false, List, [], ◌∷◌, codes, refl, Some, Ok, Err}
use Rattle.std.specs.Prelude.{pos}
use Rattle.std.specs.Str.{is_utf8, chars}
use Rattle.rights.specs.Sets.{all_rights, all_commands, further_right, lookup_right, read_right}
use Rattle.file_tree.specs.Places.{is_file_name, is_target}
use Rattle.file_tree.specs.Nodes.{node_at}
use Rattle.file_tree.specs.Refusals.{new_tree}
use Rattle.file_tree.specs.WellFormed.{is_within_limits}
use Rattle.instruction_set.specs.Programs.{Cap_rights_limit, Halt, Instruction, Invoke, Number, Use}
use Rattle.instruction_set.specs.Forms as forms
use Rattle.instruction_set.specs.Assembly.{assembly_in, line_read, fault, Operand, Word}
use Rattle.toml.specs.Data.{Data, string, integer, boolean, array, table, Members, no_members, member}
use Rattle.toml.specs.Parse.{parse_document}
use Rattle.toml.proofs.OnLiterals.{toml_on_literals}
use Rattle.task.specs.Plans.{On_node, FirstDescriptor, Plan, unmarked}
use Rattle.task.specs.Plans as plans
use Rattle.task_reader.specs.Written.{written_task}
use Rattle.task_reader.specs.Paths.{place_of}
use Rattle.task_reader.specs.Reading.{can_stand, can_grant, can_open, Wrong_field, Wrong_program, plan_of, plan_in, task_of}
use Rattle.task_reader.proofs.BaseTask.{base_program, document, on, process, program, words}

-- A task of the root alone, with this descriptor and this program; it asks for further rights, or says that it doesn't.
abbrev plain : Data → Data → Members
plain d p = document [] [] (process (d ∷ []) ∷ []) (p ∷ [])

abbrev asking : Data → Data → Data → Members
asking value d p = member (codes "further_rights") value (plain d p)

abbrev at_root : ℕ → FirstDescriptor
at_root rights = record { number = 0; object = On_node 0 (record { readable = true; writable = false }); rights = rights; fcntls = all_commands }

abbrev planned : Bool → ℕ → List Instruction → Plan
planned wide rights code =
    plans.plan_in wide new_tree [] (unmarked (codes "main") code ∷ []) (record { program = 0; mode = false; descriptors = at_root rights ∷ [] } ∷ [])

abbrev with_rights : List (List ℕ) → Data
with_rights names =
    table (member (codes "number") (integer (pos 0)) (member (codes "path") (string (codes "/")) (member (codes "rights") (array (words names)) no_members)))

abbrev root : Data
root = on 0 (codes "/")

abbrev using : Data
using = program (codes "main") (codes "use 0 EVENT else e\ne: halt")

abbrev limiting : Data
limiting = program (codes "main") (codes "cap_rights_limit 0 LOOKUP,EVENT else e\ne: halt")

-- the key

asks : plan_in (asking (boolean true) root base_program) ≡ Ok (planned true all_rights (Halt ∷ []))
unfolding can_stand can_grant can_open written_task plan_of plan_in place_of node_at is_within_limits is_file_name is_target assembly_in line_read forms.written_at
asks = refl

says_no : plan_in (asking (boolean false) root base_program) ≡ Ok (planned false all_rights (Halt ∷ []))
unfolding can_stand can_grant can_open written_task plan_of plan_in place_of node_at is_within_limits is_file_name is_target assembly_in line_read forms.written_at
says_no = refl

says_nothing : plan_in (plain root base_program) ≡ Ok (planned false all_rights (Halt ∷ []))
unfolding can_stand can_grant can_open written_task plan_of plan_in place_of node_at is_within_limits is_file_name is_target assembly_in line_read forms.written_at
says_nothing = refl

a_word_that_asks : plan_in (asking (string (codes "true")) root base_program) ≡ Err Wrong_field
unfolding can_stand can_grant can_open written_task plan_of plan_in place_of node_at is_within_limits is_file_name is_target assembly_in line_read forms.written_at
a_word_that_asks = refl

a_number_that_asks : plan_in (asking (integer (pos 1)) root base_program) ≡ Err Wrong_field
unfolding can_stand can_grant can_open written_task plan_of plan_in place_of node_at is_within_limits is_file_name is_target assembly_in line_read forms.written_at
a_number_that_asks = refl

another_key : plan_in (member (codes "further_right") (boolean true) (plain root base_program)) ≡ Err Wrong_field
unfolding can_stand can_grant can_open written_task plan_of plan_in place_of node_at is_within_limits is_file_name is_target assembly_in line_read forms.written_at
another_key = refl

-- its programs

a_use : plan_in (asking (boolean true) root using) ≡ Ok (planned true all_rights (Invoke (Use (Number 0) (further_right 4)) 1 ∷ Halt ∷ []))
unfolding can_stand can_grant can_open written_task plan_of plan_in place_of node_at is_within_limits is_file_name is_target assembly_in line_read forms.written_at forms.syscall_at
    forms.operand_at forms.rights_at forms.further_at forms.else_at forms.label_at
a_use = refl

a_use_unasked : plan_in (plain root using) ≡ Err (Wrong_program (codes "main") (fault Word 1))
unfolding can_stand can_grant can_open written_task plan_of plan_in place_of node_at is_within_limits is_file_name is_target assembly_in line_read forms.written_at forms.syscall_at
    forms.operand_at forms.rights_at forms.further_at forms.else_at forms.label_at
a_use_unasked = refl

a_wide_limit : plan_in (asking (boolean true) root limiting) ≡ Ok (planned true all_rights (Invoke (Cap_rights_limit (Number 0) (lookup_right + further_right 4)) 1 ∷ Halt ∷ []))
unfolding can_stand can_grant can_open written_task plan_of plan_in place_of node_at is_within_limits is_file_name is_target assembly_in line_read forms.written_at forms.syscall_at
    forms.operand_at forms.rights_at forms.further_at forms.else_at forms.label_at
a_wide_limit = refl

a_wide_limit_unasked : plan_in (plain root limiting) ≡ Err (Wrong_program (codes "main") (fault Operand 1))
unfolding can_stand can_grant can_open written_task plan_of plan_in place_of node_at is_within_limits is_file_name is_target assembly_in line_read forms.written_at forms.syscall_at
    forms.operand_at forms.rights_at forms.further_at forms.else_at forms.label_at
a_wide_limit_unasked = refl

-- its descriptors' rights

further_rights : plan_in (asking (boolean true) (with_rights (codes "EVENT" ∷ codes "READ" ∷ [])) base_program) ≡ Ok (planned true (read_right + further_right 4) (Halt ∷ []))
unfolding can_stand can_grant can_open written_task plan_of plan_in place_of node_at is_within_limits is_file_name is_target assembly_in line_read forms.written_at
further_rights = refl

further_rights_unasked : plan_in (plain (with_rights (codes "EVENT" ∷ codes "READ" ∷ [])) base_program) ≡ Err Wrong_field
unfolding can_stand can_grant can_open written_task plan_of plan_in place_of node_at is_within_limits is_file_name is_target assembly_in line_read forms.written_at
further_rights_unasked = refl

further_rights_refused : plan_in (asking (boolean false) (with_rights (codes "READ" ∷ codes "EVENT" ∷ [])) base_program) ≡ Err Wrong_field
unfolding can_stand can_grant can_open written_task plan_of plan_in place_of node_at is_within_limits is_file_name is_target assembly_in line_read forms.written_at
further_rights_refused = refl

plain_rights : plan_in (asking (boolean true) (with_rights (codes "READ" ∷ [])) base_program) ≡ Ok (planned true read_right (Halt ∷ []))
unfolding can_stand can_grant can_open written_task plan_of plan_in place_of node_at is_within_limits is_file_name is_target assembly_in line_read forms.written_at
plain_rights = refl

an_unknown_right : plan_in (asking (boolean true) (with_rights (codes "EVENTS" ∷ [])) base_program) ≡ Err Wrong_field
unfolding can_stand can_grant can_open written_task plan_of plan_in place_of node_at is_within_limits is_file_name is_target assembly_in line_read forms.written_at
an_unknown_right = refl

-- a text
abbrev text : List ℕ
text = codes "further_rights = true\nnode = []\ngrant = []\nprocess = [{program=\"main\", fd=[{number=0, path=\"/\"}]}]\n" ++
    codes "[[program]]\nname = \"main\"\ncode = \"use 0 EVENT else e\\ne: halt\"\n"

text_is_read : parse_document text ≡ Some (asking (boolean true) root using)
unfolding toml_on_literals
text_is_read = refl

text_stands : task_of text ≡ Ok (planned true all_rights (Invoke (Use (Number 0) (further_right 4)) 1 ∷ Halt ∷ []))
unfolding task_of is_utf8 chars lib.Utf8.encode plan_in
text_stands = rw text_is_read a_use
