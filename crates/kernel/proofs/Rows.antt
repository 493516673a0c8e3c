-- Worked rows: small programs in the sample world, with the lines that each shows, by computation. The programs
-- are the texts of the language.
use Rattle.std.proofs.Common.{◌≡◌, [], ◌∷◌, ◌++◌, codes, refl}
use Rattle.std.proofs.Math.Decide.{ℕ_discrete}
use Rattle.std.specs.Fmt.{digits}
use Rattle.file_tree.specs.Places.{path_components}
use Rattle.file_tree.specs.Nodes.{node_at, child_of, parent_of}
use Rattle.file_tree.specs.Changes.{removed, filled}
use Rattle.file_tree.specs.Refusals.{created}
use Rattle.lookup.specs.Paths.{last_component, path_fault}
use Rattle.lookup.specs.ByNodes.{by_nodes}
use Rattle.lookup.specs.Looks.{lookup_fault}
use Rattle.lookup.specs.Walks.{first_handled, handled}
use Rattle.instruction_set.specs.Forms.{written_at, syscall_at, register_at, number_at, operand_at, path_at, flags_at, rights_at, commands_at, label_at, directory_at, else_at}
use Rattle.instruction_set.specs.Assembly.{assembly_in, assembly_of, line_read}
use Rattle.fd_table.specs.OpenFiles.{any_below, lowest_from}
use Rattle.kernel.specs.Answers.{unless, held, at_object, at_number}
use Rattle.kernel.specs.Calls.{looks, looks_twice, answer}
use Rattle.kernel.specs.Changes.{files_after, changed}
use Rattle.kernel.specs.Steps.{answered, jumped, executed, stepped_at, stepped_by, stepped, step}
use Rattle.kernel.proofs.Samples.{base, alone, reading, event, refused, times, trace, code_of, programs_of}

opens_in_the_mode : trace (programs_of (code_of (assembly_of (codes "cap_enter else e\nopen \"/etc/passwd\" read else e\ne: halt\n")) ∷ [])) (alone base []) 0 (times 3) ≡
    codes "0 main:0 = 0\n0 main:1 ! ECAPMODE CapMode\n0 main:2 halt\n"
unfolding assembly_in line_read written_at syscall_at register_at number_at operand_at path_at flags_at rights_at commands_at label_at directory_at
    else_at ℕ_discrete digits base created removed filled first_handled handled looks looks_twice lookup_fault path_fault path_components
    last_component by_nodes node_at child_of parent_of unless held at_object at_number any_below lowest_from answer files_after changed answered
    jumped executed stepped_at stepped_by stepped step
opens_in_the_mode = refl

escapes_through_a_link : trace (programs_of (code_of (assembly_of (codes "cap_enter else e\nopenat 0 \"up\" read else e\ne: halt\n")) ∷ [])) (alone base []) 0 (times 4) ≡
    codes "0 main:0 = 0\n0 main:1 walk\n0 main:1 ! ENOTCAPABLE Escape\n0 main:2 halt\n"
unfolding assembly_in line_read written_at syscall_at register_at number_at operand_at path_at flags_at rights_at commands_at label_at directory_at
    else_at ℕ_discrete digits base created removed filled first_handled handled looks looks_twice lookup_fault path_fault path_components
    last_component by_nodes node_at child_of parent_of unless held at_object at_number any_below lowest_from answer files_after changed answered
    jumped executed stepped_at stepped_by stepped step
escapes_through_a_link = refl

reads_to_the_end : trace (programs_of (code_of
    (assembly_of (codes "cap_enter else e\nopenat 0 \"same\" read else e\nread 2 else e\nread 2 else e\nread 2 else e\ne: halt\n")) ∷ []))
    (alone base []) 0 (times 9) ≡
    codes "0 main:0 = 0\n0 main:1 walk\n0 main:1 walk\n0 main:1 walk\n0 main:1 = 2\n" ++
    codes "0 main:2 = 65 read /work/in\n0 main:3 = 66 read /work/in\n0 main:4 = 256 read /work/in\n0 main:5 halt\n"
unfolding assembly_in line_read written_at syscall_at register_at number_at operand_at path_at flags_at rights_at commands_at label_at directory_at
    else_at ℕ_discrete digits base created removed filled first_handled handled looks looks_twice lookup_fault path_fault path_components
    last_component by_nodes node_at child_of parent_of unless held at_object at_number any_below lowest_from answer files_after changed answered
    jumped executed stepped_at stepped_by stepped step
reads_to_the_end = refl

escapes_by_absolute_paths : trace (programs_of (code_of (assembly_of (codes "openat 0 \"abs\" read else a\na: openat 0 \"/work/in\" read else e\ne: halt\n")) ∷ [])) (alone base []) 0 (times 3) ≡
    codes "0 main:0 ! ENOTCAPABLE Escape\n0 main:1 ! ENOTCAPABLE Escape\n0 main:2 halt\n"
unfolding assembly_in line_read written_at syscall_at register_at number_at operand_at path_at flags_at rights_at commands_at label_at directory_at
    else_at ℕ_discrete digits base created removed filled first_handled handled looks looks_twice lookup_fault path_fault path_components
    last_component by_nodes node_at child_of parent_of unless held at_object at_number any_below lowest_from answer files_after changed answered
    jumped executed stepped_at stepped_by stepped step
escapes_by_absolute_paths = refl

limits_and_misses_a_right : trace (programs_of (code_of (assembly_of (codes "cap_rights_limit 0 LOOKUP,READ else e\nopenat 0 \"in\" write else e\ne: halt\n")) ∷ [])) (alone base []) 0 (times 3) ≡
    codes "0 main:0 = 0\n0 main:1 ! ENOTCAPABLE MissingRight\n0 main:2 halt\n"
unfolding assembly_in line_read written_at syscall_at register_at number_at operand_at path_at flags_at rights_at commands_at label_at directory_at
    else_at ℕ_discrete digits base created removed filled first_handled handled looks looks_twice lookup_fault path_fault path_components
    last_component by_nodes node_at child_of parent_of unless held at_object at_number any_below lowest_from answer files_after changed answered
    jumped executed stepped_at stepped_by stepped step
limits_and_misses_a_right = refl

limits_and_asks_for_more : trace (programs_of
    (code_of (assembly_of (codes "cap_rights_limit 0 LOOKUP,READ else e\ncap_rights_limit 0 LOOKUP,READ,WRITE else e\ne: halt\n")) ∷ []))
    (alone base []) 0 (times 3) ≡
    codes "0 main:0 = 0\n0 main:1 ! ENOTCAPABLE MissingRight\n0 main:2 halt\n"
unfolding assembly_in line_read written_at syscall_at register_at number_at operand_at path_at flags_at rights_at commands_at label_at directory_at
    else_at ℕ_discrete digits base created removed filled first_handled handled looks looks_twice lookup_fault path_fault path_components
    last_component by_nodes node_at child_of parent_of unless held at_object at_number any_below lowest_from answer files_after changed answered
    jumped executed stepped_at stepped_by stepped step
limits_and_asks_for_more = refl

renames_between_directories : trace (programs_of (code_of (assembly_of (codes "cap_enter else e\nrenameat 0 \"in\" 1 \"in\" else e\ne: halt\n")) ∷ [])) (alone base []) 0 (times 3) ≡
    codes "0 main:0 = 0\n0 main:1 = 0 remove /work/in create /log/in\n0 main:2 halt\n"
unfolding assembly_in line_read written_at syscall_at register_at number_at operand_at path_at flags_at rights_at commands_at label_at directory_at
    else_at ℕ_discrete digits base created removed filled first_handled handled looks looks_twice lookup_fault path_fault path_components
    last_component by_nodes node_at child_of parent_of unless held at_object at_number any_below lowest_from answer files_after changed answered
    jumped executed stepped_at stepped_by stepped step
renames_between_directories = refl

looks_beneath_a_removed_directory : trace
    (programs_of (code_of (assembly_of (codes "unlinkat 0 \"out\" dir else e\nmkdirat 0 \"out\" else e\nopenat 2 \".\" read else e\ne: halt\n"))
    ∷ [])) (alone base (reading 3 ∷ [])) 0 (times 4) ≡
    codes "0 main:0 = 0 remove /work/out\n0 main:1 = 0 create /work/out\n0 main:2 ! ENOENT Path\n0 main:3 halt\n"
unfolding assembly_in line_read written_at syscall_at register_at number_at operand_at path_at flags_at rights_at commands_at label_at directory_at
    else_at ℕ_discrete digits base created removed filled first_handled handled looks looks_twice lookup_fault path_fault path_components
    last_component by_nodes node_at child_of parent_of unless held at_object at_number any_below lowest_from answer files_after changed answered
    jumped executed stepped_at stepped_by stepped step
looks_beneath_a_removed_directory = refl

reads_an_input_of_none : trace (programs_of
    (code_of (assembly_of (codes "in r0\njeq r0 0 k\nclose 2 else e\nk: openat 0 \"in\" read else e\ne: halt\n")) ∷ []))
    (alone base (reading 3 ∷ [])) 0 (times 3) ≡
    codes "0 main:0 ok\n0 main:1 ok\n0 main:3 = 3\n"
unfolding assembly_in line_read written_at syscall_at register_at number_at operand_at path_at flags_at rights_at commands_at label_at directory_at
    else_at ℕ_discrete digits base created removed filled first_handled handled looks looks_twice lookup_fault path_fault path_components
    last_component by_nodes node_at child_of parent_of unless held at_object at_number any_below lowest_from answer files_after changed answered
    jumped executed stepped_at stepped_by stepped step
reads_an_input_of_none = refl

reads_an_input : trace (programs_of (code_of (assembly_of (codes "in r0\njeq r0 0 k\nclose 2 else e\nk: openat 0 \"in\" read else e\ne: halt\n"))
    ∷ [])) (alone base (reading 3 ∷ [])) 0 (event 0 5 ∷ times 3) ≡
    codes "0 main:0 ok\n0 main:1 ok\n0 main:2 = 0\n0 main:3 = 2\n"
unfolding assembly_in line_read written_at syscall_at register_at number_at operand_at path_at flags_at rights_at commands_at label_at directory_at
    else_at ℕ_discrete digits base created removed filled first_handled handled looks looks_twice lookup_fault path_fault path_components
    last_component by_nodes node_at child_of parent_of unless held at_object at_number any_below lowest_from answer files_after changed answered
    jumped executed stepped_at stepped_by stepped step
reads_an_input = refl

copies_until_no_number_is_free : trace (programs_of (code_of (assembly_of (codes "l: dup 0 else e\njmp l\ne: halt\n")) ∷ [])) (alone base []) 0 (times 29) ≡
    codes "0 main:0 = 2\n0 main:1 ok\n0 main:0 = 3\n0 main:1 ok\n0 main:0 = 4\n0 main:1 ok\n0 main:0 = 5\n0 main:1 ok\n0 main:0 = 6\n" ++
    codes "0 main:1 ok\n0 main:0 = 7\n0 main:1 ok\n0 main:0 = 8\n0 main:1 ok\n0 main:0 = 9\n0 main:1 ok\n0 main:0 = 10\n0 main:1 ok\n" ++
    codes "0 main:0 = 11\n0 main:1 ok\n0 main:0 = 12\n0 main:1 ok\n0 main:0 = 13\n0 main:1 ok\n0 main:0 = 14\n0 main:1 ok\n0 main:0 = 15\n" ++
    codes "0 main:1 ok\n0 main:0 ! EMFILE Full\n"
unfolding assembly_in line_read written_at syscall_at register_at number_at operand_at path_at flags_at rights_at commands_at label_at directory_at
    else_at ℕ_discrete digits base created removed filled first_handled handled looks looks_twice lookup_fault path_fault path_components
    last_component by_nodes node_at child_of parent_of unless held at_object at_number any_below lowest_from answer files_after changed answered
    jumped executed stepped_at stepped_by stepped step
copies_until_no_number_is_free = refl

is_refused_a_file : trace (programs_of (code_of (assembly_of (codes "openat 0 \"in\" read else a\na: openat 0 \"in\" read else e\ne: halt\n")) ∷ [])) (alone base []) 0 (refused ∷ times 1) ≡
    codes "0 main:0 ! ENFILE Refused\n0 main:1 = 2\n"
unfolding assembly_in line_read written_at syscall_at register_at number_at operand_at path_at flags_at rights_at commands_at label_at directory_at
    else_at ℕ_discrete digits base created removed filled first_handled handled looks looks_twice lookup_fault path_fault path_components
    last_component by_nodes node_at child_of parent_of unless held at_object at_number any_below lowest_from answer files_after changed answered
    jumped executed stepped_at stepped_by stepped step
is_refused_a_file = refl

reads_in_another_directory : trace (programs_of (code_of (assembly_of (codes "cap_enter else e\nread 2 else e\ne: halt\n")) ∷ [])) (alone base (reading 8 ∷ [])) 0 (times 3) ≡
    codes "0 main:0 = 0\n0 main:1 = 119 read /workshop/x\n0 main:2 halt\n"
unfolding assembly_in line_read written_at syscall_at register_at number_at operand_at path_at flags_at rights_at commands_at label_at directory_at
    else_at ℕ_discrete digits base created removed filled first_handled handled looks looks_twice lookup_fault path_fault path_components
    last_component by_nodes node_at child_of parent_of unless held at_object at_number any_below lowest_from answer files_after changed answered
    jumped executed stepped_at stepped_by stepped step
reads_in_another_directory = refl

writes_and_truncates : trace (programs_of
    (code_of (assembly_of (codes "openat 1 \"f\" read,write,create else e\nwrite 2 321 else e\nlseek 2 0 else e\nread 2 else e\nopenat 1 \"f\" write,trunc else e\n" ++
    codes "read 2 else e\nlseek 2 4096 else e\nwrite 2 0 else e\ne: halt\n")) ∷ [])) (alone base []) 0 (times 8) ≡
    codes "0 main:0 = 2 create /log/f\n0 main:1 = 1 write /log/f\n0 main:2 = 0\n0 main:3 = 65 read /log/f\n0 main:4 = 3 write /log/f\n" ++
    codes "0 main:5 = 256 read /log/f\n0 main:6 = 4096\n0 main:7 ! EFBIG Full\n"
unfolding assembly_in line_read written_at syscall_at register_at number_at operand_at path_at flags_at rights_at commands_at label_at directory_at
    else_at ℕ_discrete digits base created removed filled first_handled handled looks looks_twice lookup_fault path_fault path_components
    last_component by_nodes node_at child_of parent_of unless held at_object at_number any_below lowest_from answer files_after changed answered
    jumped executed stepped_at stepped_by stepped step
writes_and_truncates = refl

shares_status_flags : trace (programs_of
    (code_of (assembly_of (codes "dup 0 else e\ncap_fcntls_limit 2 GETFL else e\nfcntl_setfl 2 1 else f\nf: fcntl_getfl 2 else e\nfcntl_setfl 0 1 else e\n" ++
    codes "fcntl_getfl 2 else e\ne: halt\n")) ∷ [])) (alone base []) 0 (times 6) ≡
    codes "0 main:0 = 2\n0 main:1 = 0\n0 main:2 ! ENOTCAPABLE MissingRight\n0 main:3 = 0\n0 main:4 = 0\n0 main:5 = 1\n"
unfolding assembly_in line_read written_at syscall_at register_at number_at operand_at path_at flags_at rights_at commands_at label_at directory_at
    else_at ℕ_discrete digits base created removed filled first_handled handled looks looks_twice lookup_fault path_fault path_components
    last_component by_nodes node_at child_of parent_of unless held at_object at_number any_below lowest_from answer files_after changed answered
    jumped executed stepped_at stepped_by stepped step
shares_status_flags = refl

renames_and_fails : trace (programs_of (code_of
    (assembly_of (codes "renameat 0 \"in\" 0 \"in\" else a\na: renameat 0 \"out\" 0 \"out/x\" else b\nb: renameat 0 \"in\" 0 \"out\" else c\n" ++
    codes "c: renameat 0 \"out\" 0 \"in\" else e\ne: halt\n")) ∷ [])) (alone base []) 0 (times 5) ≡
    codes "0 main:0 = 0\n0 main:1 walk\n0 main:1 ! EINVAL Path\n0 main:2 ! EISDIR Path\n0 main:3 ! ENOTDIR Path\n"
unfolding assembly_in line_read written_at syscall_at register_at number_at operand_at path_at flags_at rights_at commands_at label_at directory_at
    else_at ℕ_discrete digits base created removed filled first_handled handled looks looks_twice lookup_fault path_fault path_components
    last_component by_nodes node_at child_of parent_of unless held at_object at_number any_below lowest_from answer files_after changed answered
    jumped executed stepped_at stepped_by stepped step
renames_and_fails = refl

limits_before_a_rename : trace (programs_of
    (code_of (assembly_of (codes "openat 1 \"in\" write,create else e\ncap_rights_limit 1 LOOKUP,RENAMEAT_TARGET else e\nrenameat 0 \"in\" 1 \"in\" else a\n" ++
    codes "a: renameat 0 \"in\" 1 \"new\" else e\ne: halt\n")) ∷ [])) (alone base []) 0 (times 4) ≡
    codes "0 main:0 = 2 create /log/in\n0 main:1 = 0\n0 main:2 ! ENOTCAPABLE MissingRight\n0 main:3 = 0 remove /work/in create /log/new\n"
unfolding assembly_in line_read written_at syscall_at register_at number_at operand_at path_at flags_at rights_at commands_at label_at directory_at
    else_at ℕ_discrete digits base created removed filled first_handled handled looks looks_twice lookup_fault path_fault path_components
    last_component by_nodes node_at child_of parent_of unless held at_object at_number any_below lowest_from answer files_after changed answered
    jumped executed stepped_at stepped_by stepped step
limits_before_a_rename = refl

looks_makes_and_removes : trace (programs_of
    (code_of (assembly_of (codes "cap_getmode else e\nstat \"/work\" else e\nfstat 0 else e\nfstatat 0 \"in\" else e\nmkdir \"/d\" else e\n" ++
    codes "unlink \"/d\" dir else e\nopenat 1 \"f\" write,create else e\nftruncate 2 3 else e\nfsync 2 else e\ne: halt\n")) ∷ [])) (alone base []) 0 (times 9) ≡
    codes "0 main:0 = 0\n0 main:1 = 2 look /work\n0 main:2 = 2 look /work\n0 main:3 = 1 look /work/in\n0 main:4 = 0 create /d\n" ++
    codes "0 main:5 = 0 remove /d\n0 main:6 = 2 create /log/f\n0 main:7 = 0 write /log/f\n0 main:8 = 0\n"
unfolding assembly_in line_read written_at syscall_at register_at number_at operand_at path_at flags_at rights_at commands_at label_at directory_at
    else_at ℕ_discrete digits base created removed filled first_handled handled looks looks_twice lookup_fault path_fault path_components
    last_component by_nodes node_at child_of parent_of unless held at_object at_number any_below lowest_from answer files_after changed answered
    jumped executed stepped_at stepped_by stepped step
looks_makes_and_removes = refl

resizes_a_file : trace (programs_of (code_of
    (assembly_of (codes "openat 0 \"in\" read,write else e\nftruncate 2 1 else e\nread 2 else e\nread 2 else e\nftruncate 2 3 else e\nread 2 else e\n" ++
    codes "read 2 else e\ne: halt\n")) ∷ [])) (alone base []) 0 (times 7) ≡
    codes "0 main:0 = 2\n0 main:1 = 0 write /work/in\n0 main:2 = 65 read /work/in\n0 main:3 = 256 read /work/in\n0 main:4 = 0 write /work/in\n0 main:5 = 0 read /work/in\n0 main:6 = 0 read /work/in\n"
unfolding assembly_in line_read written_at syscall_at register_at number_at operand_at path_at flags_at rights_at commands_at label_at directory_at
    else_at ℕ_discrete digits base created removed filled first_handled handled looks looks_twice lookup_fault path_fault path_components
    last_component by_nodes node_at child_of parent_of unless held at_object at_number any_below lowest_from answer files_after changed answered
    jumped executed stepped_at stepped_by stepped step
resizes_a_file = refl

has_ended : trace (programs_of (code_of (assembly_of (codes "cap_enter else e\nread 2 else e\ne: halt\n")) ∷ [])) (alone base (reading 2 ∷ [])) 0 (times 5) ≡
    codes "0 main:0 = 0\n0 main:1 = 65 read /work/in\n0 main:2 halt\n0 main:2 ended\n0 main:2 ended\n"
unfolding assembly_in line_read written_at syscall_at register_at number_at operand_at path_at flags_at rights_at commands_at label_at directory_at
    else_at ℕ_discrete digits base created removed filled first_handled handled looks looks_twice lookup_fault path_fault path_components
    last_component by_nodes node_at child_of parent_of unless held at_object at_number any_below lowest_from answer files_after changed answered
    jumped executed stepped_at stepped_by stepped step
has_ended = refl

was_not_made : trace (programs_of (code_of (assembly_of (codes "halt\n")) ∷ [])) (alone base []) 0 (event 5 0 ∷ times 2) ≡
    codes "5 - none\n0 main:0 halt\n0 main:0 ended\n"
unfolding assembly_in line_read written_at syscall_at register_at number_at operand_at path_at flags_at rights_at commands_at label_at directory_at
    else_at ℕ_discrete digits base created removed filled first_handled handled looks looks_twice lookup_fault path_fault path_components
    last_component by_nodes node_at child_of parent_of unless held at_object at_number any_below lowest_from answer files_after changed answered
    jumped executed stepped_at stepped_by stepped step
was_not_made = refl
