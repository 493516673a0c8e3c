-- Worked rows of processes that do anything, by computation.
use Rattle.std.proofs.Common.{◌≡◌, ◌+◌, [], ℕ, Bool, true, false, List, ◌∷◌, ◌++◌, codes, refl}
use Rattle.std.specs.Prelude.{replicate, Some}
use Rattle.std.proofs.Math.Decide.{ℕ_discrete}
use Rattle.std.specs.Fmt.{digits}
use Rattle.rights.specs.Opens.{open_request}
use Rattle.rights.specs.Maps.{put2}
use Rattle.file_tree.specs.Places.{path_components}
use Rattle.file_tree.specs.Nodes.{node_at, child_of, parent_of}
use Rattle.file_tree.specs.Changes.{removed, filled}
use Rattle.file_tree.specs.Refusals.{created}
use Rattle.lookup.specs.Paths.{last_component, path_fault}
use Rattle.lookup.specs.ByNodes.{by_nodes}
use Rattle.lookup.specs.Looks.{lookup_fault}
use Rattle.lookup.specs.Walks.{first_handled, handled}
use Rattle.process.specs.State.{ProcessState, new_process}
use Rattle.instruction_set.specs.Programs.{Instruction, Number, Register, Set, Halt, Invoke, Open, Openat, Recvfd, Dup, Socketpair, Fork}
use Rattle.instruction_set.specs.Forms.{written_at, syscall_at, register_at, number_at, operand_at, path_at, flags_at, rights_at, commands_at, label_at, directory_at, else_at}
use Rattle.instruction_set.specs.Assembly.{assembly_in, assembly_of, line_read}
use Rattle.fd_table.specs.Descriptions.{At_end, Made_at, Made_by, Object}
use Rattle.fd_table.specs.OpenFiles.{any_below, lowest_from}
use Rattle.kernel.specs.World.{World}
use Rattle.kernel.specs.Answers.{unless, held, at_object, at_number}
use Rattle.kernel.specs.Calls.{looks, looks_twice, answer}
use Rattle.kernel.specs.Changes.{files_after, changed}
use Rattle.kernel.specs.Steps.{Programs, answered, jumped, executed, stepped_at, stepped_by, stepped, step}
use Rattle.kernel.specs.Hostile.{Act, Own, Does, about, step_as}
use Rattle.kernel.proofs.Samples.{base, joined, described, event, choice_at, line_text, program_name, code_of, programs_of}

-- Process 1 is of a marked program and in the mode, and holds `/work` as descriptor 1 besides its end of a pair.
abbrev taken_over : World
taken_over = record joined {
  processes = new_process 0 false ∷ record (new_process 1 true) { marked = true } ∷ [];
  files = record joined.files { table = put2 joined.files.table 1 1 (Some (described 0)) };
}

abbrev deed : Instruction → ℕ → ℕ → Act
deed i first point = Does (record { instruction = i; registers = first ∷ replicate 7 0; point = point })

-- what is shown where processes act in turn, by their programs or not
abbrev shown_from : Programs → World → ℕ → List (ℕ × Act) → List ℕ
shown_from programs w n [] = []
shown_from programs w n ((p, act) ∷ events) =
    let s = step_as programs w (event p 0) act (choice_at n) in
    line_text program_name p s.acted ++ shown_from programs s.world (n + 1) events

abbrev shown : List ℕ → List ℕ → List (ℕ × Act) → List ℕ
shown main child events = shown_from (programs_of (code_of (assembly_of main) ∷ code_of (assembly_of child) ∷ [])) taken_over 0 events

abbrev reads : List ℕ → Instruction
reads path = Invoke (Open path (open_request true false false false false)) 9

abbrev reads_in_work : List ℕ → Instruction
reads_in_work path = Invoke (Openat (Number 1) path (open_request true false false false false)) 9

abbrev halting : List ℕ
halting = codes "halt\n"

-- In the mode no deed opens a file by a global path. After the error it stands where the deed says, with the registers that it says.
is_refused_in_the_mode : shown halting (codes "halt\nset r1 1\njeq r0 5 h\nset r2 2\nh: halt\n") ((1, deed (reads (codes "/etc/passwd")) 5 1) ∷ (1, Own) ∷ (1, Own) ∷ (1, Own) ∷ []) ≡
    codes "1 child:0 ! ECAPMODE CapMode\n" ++ codes "1 child:1 ok\n" ++ codes "1 child:2 ok\n" ++ codes "1 child:4 halt\n"
unfolding assembly_in line_read written_at syscall_at register_at number_at operand_at path_at flags_at rights_at commands_at label_at directory_at
    else_at ℕ_discrete digits base created removed filled first_handled handled looks looks_twice lookup_fault path_fault path_components
    last_component by_nodes node_at child_of parent_of unless held at_object at_number any_below lowest_from answer files_after changed answered
    jumped executed stepped_at stepped_by stepped step
is_refused_in_the_mode = refl

-- Its program has an end at its point, and it does one thing after another.
is_another_deed_each_time : shown halting halting ((1, deed (Invoke (Dup (Number 1)) 0) 0 0) ∷ (1, deed (Set 3 7) 0 0) ∷ (1, deed (Invoke (Dup (Register 0)) 9) 2 0) ∷ (1, Own) ∷ []) ≡
    codes "1 child:0 = 2\n" ++ codes "1 child:0 ok\n" ++ codes "1 child:0 = 3\n" ++ codes "1 child:0 halt\n"
unfolding assembly_in line_read written_at syscall_at register_at number_at operand_at path_at flags_at rights_at commands_at label_at directory_at
    else_at ℕ_discrete digits base created removed filled first_handled handled looks looks_twice lookup_fault path_fault path_components
    last_component by_nodes node_at child_of parent_of unless held at_object at_number any_below lowest_from answer files_after changed answered
    jumped executed stepped_at stepped_by stepped step
is_another_deed_each_time = refl

-- A deed that ends its process takes the point, and the lines that follow print it.
ends_at_the_point_of_its_deed : shown halting (codes "halt\nhalt\nhalt\n") ((1, deed Halt 0 2) ∷ (1, Own) ∷ (1, deed Halt 0 1) ∷ []) ≡
    codes "1 child:0 halt\n" ++ codes "1 child:2 ended\n" ++ codes "1 child:2 ended\n"
unfolding assembly_in line_read written_at syscall_at register_at number_at operand_at path_at flags_at rights_at commands_at label_at directory_at
    else_at ℕ_discrete digits base created removed filled first_handled handled looks looks_twice lookup_fault path_fault path_components
    last_component by_nodes node_at child_of parent_of unless held at_object at_number any_below lowest_from answer files_after changed answered
    jumped executed stepped_at stepped_by stepped step
ends_at_the_point_of_its_deed = refl

-- A child of a deed has its registers, the first one too, and its point.
forks_with_what_the_deed_says : shown halting (codes "halt\njeq r0 5 h\nset r1 1\nh: halt\n") ((1, deed (Invoke Fork 0) 5 1) ∷ (2, Own) ∷ (2, Own) ∷ (1, Own) ∷ (2, deed (Set 0 0) 0 0) ∷ []) ≡
    codes "1 child:0 = 2\n" ++ codes "2 child:1 ok\n" ++ codes "2 child:3 halt\n" ++ codes "1 child:1 ok\n" ++ codes "2 child:3 ended\n"
unfolding assembly_in line_read written_at syscall_at register_at number_at operand_at path_at flags_at rights_at commands_at label_at directory_at
    else_at ℕ_discrete digits base created removed filled first_handled handled looks looks_twice lookup_fault path_fault path_components
    last_component by_nodes node_at child_of parent_of unless held at_object at_number any_below lowest_from answer files_after changed answered
    jumped executed stepped_at stepped_by stepped step
forks_with_what_the_deed_says = refl

-- A deed that waits is over, and what comes next may be another one.
waits_and_does_another : shown halting (codes "halt\nset r1 1\nhalt\n") ((1, deed (Invoke (Recvfd (Number 0)) 0) 0 1) ∷ (1, Own) ∷ (1, deed (Invoke (Dup (Number 1)) 0) 0 0) ∷ []) ≡
    codes "1 child:0 wait\n" ++ codes "1 child:1 ok\n" ++ codes "1 child:2 = 2\n"
unfolding assembly_in line_read written_at syscall_at register_at number_at operand_at path_at flags_at rights_at commands_at label_at directory_at
    else_at ℕ_discrete digits base created removed filled first_handled handled looks looks_twice lookup_fault path_fault path_components
    last_component by_nodes node_at child_of parent_of unless held at_object at_number any_below lowest_from answer files_after changed answered
    jumped executed stepped_at stepped_by stepped step
waits_and_does_another = refl

-- A lookup of a deed goes on where the process acts by itself, and another deed doesn't take its place.
goes_on_by_itself : shown halting (codes "halt\nset r1 1\nhalt\n") ((1, deed (reads_in_work (codes "out/../in")) 5 1) ∷ (1, Own) ∷ (1, deed Halt 0 0) ∷ (1, Own) ∷ []) ≡
    codes "1 child:0 walk\n" ++ codes "1 child:0 walk\n" ++ codes "1 child:0 = 2\n" ++ codes "1 child:1 ok\n"
unfolding assembly_in line_read written_at syscall_at register_at number_at operand_at path_at flags_at rights_at commands_at label_at directory_at
    else_at ℕ_discrete digits base created removed filled first_handled handled looks looks_twice lookup_fault path_fault path_components
    last_component by_nodes node_at child_of parent_of unless held at_object at_number any_below lowest_from answer files_after changed answered
    jumped executed stepped_at stepped_by stepped step
goes_on_by_itself = refl

-- A lookup that its program has begun goes on as that.
goes_on_as_its_program : shown halting (codes "openat 1 \"out/../in\" read else e\ne: halt\n") ((1, Own) ∷ (1, deed Halt 0 0) ∷ (1, deed Halt 0 0) ∷ (1, deed Halt 0 0) ∷ []) ≡
    codes "1 child:0 walk\n" ++ codes "1 child:0 walk\n" ++ codes "1 child:0 = 2\n" ++ codes "1 child:1 halt\n"
unfolding assembly_in line_read written_at syscall_at register_at number_at operand_at path_at flags_at rights_at commands_at label_at directory_at
    else_at ℕ_discrete digits base created removed filled first_handled handled looks looks_twice lookup_fault path_fault path_components
    last_component by_nodes node_at child_of parent_of unless held at_object at_number any_below lowest_from answer files_after changed answered
    jumped executed stepped_at stepped_by stepped step
goes_on_as_its_program = refl

-- A process of another program follows it, whatever it is handed.
follows_its_program_elsewhere : shown (codes "set r0 1\nhalt\n") halting ((0, deed Halt 0 0) ∷ (0, deed Halt 0 0) ∷ []) ≡
    codes "0 main:0 ok\n" ++ codes "0 main:1 halt\n"
unfolding assembly_in line_read written_at syscall_at register_at number_at operand_at path_at flags_at rights_at commands_at label_at directory_at
    else_at ℕ_discrete digits base created removed filled first_handled handled looks looks_twice lookup_fault path_fault path_components
    last_component by_nodes node_at child_of parent_of unless held at_object at_number any_below lowest_from answer files_after changed answered
    jumped executed stepped_at stepped_by stepped step
follows_its_program_elsewhere = refl

-- It is refused what its descriptors lack.
is_refused_what_it_does_not_hold : shown halting halting ((1, deed (reads_in_work (codes "../etc/passwd")) 0 0) ∷ (1, deed (Invoke (Dup (Number 9)) 0) 0 0) ∷ []) ≡
    codes "1 child:0 ! ENOTCAPABLE Escape\n" ++ codes "1 child:0 ! EBADF BadDescriptor\n"
unfolding assembly_in line_read written_at syscall_at register_at number_at operand_at path_at flags_at rights_at commands_at label_at directory_at
    else_at ℕ_discrete digits base created removed filled first_handled handled looks looks_twice lookup_fault path_fault path_components
    last_component by_nodes node_at child_of parent_of unless held at_object at_number any_below lowest_from answer files_after changed answered
    jumped executed stepped_at stepped_by stepped step
is_refused_what_it_does_not_hold = refl

-- At the last point that a program may have, too.
at_the_last_point : shown_from (programs_of ((Halt ∷ []) ∷ replicate 256 Halt ∷ [])) (record taken_over {
  processes = new_process 0 false ∷ record (new_process 1 true) { marked = true; point = 255 } ∷ [];
}) 0 ((1, deed (Invoke (Dup (Number 1)) 0) 0 255) ∷ (1, deed (Set 0 0) 0 255) ∷ (1, Own) ∷ []) ≡
    codes "1 child:255 = 2\n1 child:255 ok\n1 child:255 halt\n"
unfolding assembly_in line_read written_at syscall_at register_at number_at operand_at path_at flags_at rights_at commands_at label_at directory_at
    else_at ℕ_discrete digits base created removed filled first_handled handled looks looks_twice lookup_fault path_fault path_components
    last_component by_nodes node_at child_of parent_of unless held at_object at_number any_below lowest_from answer files_after changed answered
    jumped executed stepped_at stepped_by stepped step
at_the_last_point = refl

-- A pair that it makes in the mode is of its program, whether it follows it or not; one that another makes, or it outside the mode, is of
-- their point.
abbrev pair_of : ProcessState → Act → Object
pair_of s act = (step (programs_of ((Halt ∷ []) ∷ (Invoke Socketpair 1 ∷ Halt ∷ []) ∷ []))
    (about (record taken_over { processes = new_process 0 false ∷ s ∷ [] }) 1 act) (event 1 0) (choice_at 0)).world.files.objects 100

abbrev marked_in : Bool → ProcessState
marked_in mode = record (new_process 1 mode) { marked = true }

pair_of_a_deed : pair_of (marked_in true) (deed (Invoke Socketpair 1) 0 0) ≡ At_end 1 0 (Made_by 1)
unfolding assembly_in line_read written_at syscall_at register_at number_at operand_at path_at flags_at rights_at commands_at label_at directory_at
    else_at ℕ_discrete digits base created removed filled first_handled handled looks looks_twice lookup_fault path_fault path_components
    last_component by_nodes node_at child_of parent_of unless held at_object at_number any_below lowest_from answer files_after changed answered
    jumped executed stepped_at stepped_by stepped step
pair_of_a_deed = refl

pair_of_its_program : pair_of (marked_in true) Own ≡ At_end 1 0 (Made_by 1)
unfolding assembly_in line_read written_at syscall_at register_at number_at operand_at path_at flags_at rights_at commands_at label_at directory_at
    else_at ℕ_discrete digits base created removed filled first_handled handled looks looks_twice lookup_fault path_fault path_components
    last_component by_nodes node_at child_of parent_of unless held at_object at_number any_below lowest_from answer files_after changed answered
    jumped executed stepped_at stepped_by stepped step
pair_of_its_program = refl

pair_outside_the_mode : pair_of (marked_in false) Own ≡ At_end 1 0 (Made_at 1 0)
unfolding assembly_in line_read written_at syscall_at register_at number_at operand_at path_at flags_at rights_at commands_at label_at directory_at
    else_at ℕ_discrete digits base created removed filled first_handled handled looks looks_twice lookup_fault path_fault path_components
    last_component by_nodes node_at child_of parent_of unless held at_object at_number any_below lowest_from answer files_after changed answered
    jumped executed stepped_at stepped_by stepped step
pair_outside_the_mode = refl

pair_of_another : pair_of (new_process 1 true) Own ≡ At_end 1 0 (Made_at 1 0)
unfolding assembly_in line_read written_at syscall_at register_at number_at operand_at path_at flags_at rights_at commands_at label_at directory_at
    else_at ℕ_discrete digits base created removed filled first_handled handled looks looks_twice lookup_fault path_fault path_components
    last_component by_nodes node_at child_of parent_of unless held at_object at_number any_below lowest_from answer files_after changed answered
    jumped executed stepped_at stepped_by stepped step
pair_of_another = refl
