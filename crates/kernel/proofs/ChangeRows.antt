-- Worked rows of changes that a later step shows, by computation.
use Rattle.std.proofs.Common.{◌≡◌, [], ◌∷◌, codes, refl}
use Rattle.std.proofs.Math.Decide.{ℕ_discrete}
use Rattle.std.specs.Fmt.{digits}
use Rattle.file_tree.specs.Places.{path_components}
use Rattle.file_tree.specs.Nodes.{node_at, child_of, parent_of}
use Rattle.file_tree.specs.Changes.{removed, filled}
use Rattle.file_tree.specs.Refusals.{created}
use Rattle.lookup.specs.Paths.{last_component, path_fault}
use Rattle.lookup.specs.ByNodes.{by_nodes}
use Rattle.lookup.specs.Looks.{lookup_fault}
use Rattle.lookup.specs.Walks.{first_handled, handled}
use Rattle.instruction_set.specs.Programs.{Halt, Invoke, Stat, Cap_enter, Fork}
use Rattle.instruction_set.specs.Forms.{written_at, syscall_at, register_at, number_at, operand_at, path_at, flags_at, rights_at, commands_at, label_at, directory_at, else_at}
use Rattle.instruction_set.specs.Assembly.{assembly_in, assembly_of, line_read}
use Rattle.fd_table.specs.OpenFiles.{any_below, lowest_from}
use Rattle.kernel.specs.Answers.{unless, held, at_object, at_number}
use Rattle.kernel.specs.Calls.{looks, looks_twice, answer}
use Rattle.kernel.specs.Changes.{files_after, changed}
use Rattle.kernel.specs.Steps.{answered, jumped, executed, stepped_at, stepped_by, stepped, step}
use Rattle.kernel.proofs.Samples.{base, alone, event, times, trace, code_of, programs_of}

renames_over_a_file : trace (programs_of
    (code_of (assembly_of (codes "openat 1 \"in\" write,create else e\nrenameat 0 \"in\" 1 \"in\" else e\nfstatat 0 \"in\" else e\ne: halt\n")) ∷ []))
    (alone base []) 0 (times 3) ≡
    codes "0 main:0 = 2 create /log/in\n0 main:1 = 0 remove /log/in remove /work/in create /log/in\n0 main:2 ! ENOENT Path\n"
unfolding assembly_in line_read written_at syscall_at register_at number_at operand_at path_at flags_at rights_at commands_at label_at directory_at
    else_at ℕ_discrete digits base created removed filled first_handled handled looks looks_twice lookup_fault path_fault path_components
    last_component by_nodes node_at child_of parent_of unless held at_object at_number any_below lowest_from answer files_after changed answered
    jumped executed stepped_at stepped_by stepped step
renames_over_a_file = refl

appends_and_stands_behind : trace (programs_of
    (code_of (assembly_of (codes "openat 0 \"in\" read,write,append else e\nwrite 2 67 else e\nread 2 else e\nlseek 2 2 else e\nread 2 else e\ne: halt\n")) ∷ [])) (alone base []) 0 (times 5) ≡
    codes "0 main:0 = 2\n0 main:1 = 1 write /work/in\n0 main:2 = 256 read /work/in\n0 main:3 = 2\n0 main:4 = 67 read /work/in\n"
unfolding assembly_in line_read written_at syscall_at register_at number_at operand_at path_at flags_at rights_at commands_at label_at directory_at
    else_at ℕ_discrete digits base created removed filled first_handled handled looks looks_twice lookup_fault path_fault path_components
    last_component by_nodes node_at child_of parent_of unless held at_object at_number any_below lowest_from answer files_after changed answered
    jumped executed stepped_at stepped_by stepped step
appends_and_stands_behind = refl

makes_a_file_and_writes_nothing : trace (programs_of
    (code_of (assembly_of (codes "openat 1 \"g\" write,create,trunc else e\nopenat 1 \"g\" write,create,trunc else e\ne: halt\n")) ∷ []))
    (alone base []) 0 (times 2) ≡
    codes "0 main:0 = 2 create /log/g\n0 main:1 = 3 write /log/g\n"
unfolding assembly_in line_read written_at syscall_at register_at number_at operand_at path_at flags_at rights_at commands_at label_at directory_at
    else_at ℕ_discrete digits base created removed filled first_handled handled looks looks_twice lookup_fault path_fault path_components
    last_component by_nodes node_at child_of parent_of unless held at_object at_number any_below lowest_from answer files_after changed answered
    jumped executed stepped_at stepped_by stepped step
makes_a_file_and_writes_nothing = refl

forks_in_the_mode : trace (programs_of ((Invoke Cap_enter 3 ∷ Invoke Fork 3 ∷ Invoke (Stat (codes "/work")) 3 ∷ Halt ∷ []) ∷ [])) (alone base []) 0
    (event 0 0 ∷ event 0 0 ∷ event 1 0 ∷ event 0 0 ∷ []) ≡
    codes "0 main:0 = 0\n0 main:1 = 1\n1 main:2 ! ECAPMODE CapMode\n0 main:2 ! ECAPMODE CapMode\n"
unfolding assembly_in line_read written_at syscall_at register_at number_at operand_at path_at flags_at rights_at commands_at label_at directory_at
    else_at ℕ_discrete digits base created removed filled first_handled handled looks looks_twice lookup_fault path_fault path_components
    last_component by_nodes node_at child_of parent_of unless held at_object at_number any_below lowest_from answer files_after changed answered
    jumped executed stepped_at stepped_by stepped step
forks_in_the_mode = refl
