-- Worked rows of processes, sockets and links, by computation.
use Rattle.std.proofs.Common.{◌≡◌, [], ◌∷◌, ◌++◌, codes, refl}
use Rattle.std.proofs.Math.Decide.{ℕ_discrete}
use Rattle.std.specs.Prelude.{true, false}
use Rattle.std.specs.Fmt.{digits}
use Rattle.rights.specs.Opens.{open_request}
use Rattle.file_tree.specs.Places.{path_components}
use Rattle.file_tree.specs.Nodes.{node_at, child_of, parent_of}
use Rattle.file_tree.specs.Changes.{removed, filled}
use Rattle.file_tree.specs.Refusals.{created}
use Rattle.lookup.specs.Paths.{last_component, path_fault}
use Rattle.lookup.specs.ByNodes.{by_nodes}
use Rattle.lookup.specs.Looks.{lookup_fault}
use Rattle.lookup.specs.Walks.{first_handled, handled}
use Rattle.instruction_set.specs.Programs.{Number, Jmp, Jeq, Halt, Invoke, Open, Openat, Read, Write, Sendfd, Recvfd, Fstat, Dup, Close, Cap_rights_limit, Cap_enter, Socketpair, Fork}
use Rattle.fd_table.specs.OpenFiles.{any_below, lowest_from}
use Rattle.kernel.specs.Answers.{unless, held, at_object, at_number}
use Rattle.kernel.specs.Calls.{looks, looks_twice, answer}
use Rattle.kernel.specs.Changes.{files_after, changed}
use Rattle.kernel.specs.Steps.{answered, jumped, executed, stepped_at, stepped_by, stepped, step}
use Rattle.kernel.proofs.Samples.{base, with_links, alone, joined, reading, event, times, repeated, trace, programs_of}

forks : trace (programs_of ((Invoke Fork 4 ∷ Jeq 0 0 3 ∷ Jmp 4 ∷ Invoke Cap_enter 4 ∷ Halt ∷ []) ∷ [])) (alone base []) 0 (event 0 0 ∷ event 0 0 ∷ event 1 0 ∷ event 1 0 ∷ []) ≡
    codes "0 main:0 = 1\n0 main:1 ok\n1 main:1 ok\n1 main:3 = 0\n"
unfolding ℕ_discrete digits base created removed filled first_handled handled looks looks_twice lookup_fault path_fault path_components last_component
    by_nodes node_at child_of parent_of unless held at_object at_number any_below lowest_from answer files_after changed answered jumped executed
    stepped_at stepped_by stepped step with_links
forks = refl

forks_until_no_process_is_left : trace (programs_of ((Invoke Fork 2 ∷ Jmp 0 ∷ Halt ∷ []) ∷ [])) (alone base []) 0 (times 31) ≡
    codes "0 main:0 = 1\n0 main:1 ok\n0 main:0 = 2\n0 main:1 ok\n0 main:0 = 3\n0 main:1 ok\n0 main:0 = 4\n0 main:1 ok\n0 main:0 = 5\n" ++
    codes "0 main:1 ok\n0 main:0 = 6\n0 main:1 ok\n0 main:0 = 7\n0 main:1 ok\n0 main:0 = 8\n0 main:1 ok\n0 main:0 = 9\n0 main:1 ok\n" ++
    codes "0 main:0 = 10\n0 main:1 ok\n0 main:0 = 11\n0 main:1 ok\n0 main:0 = 12\n0 main:1 ok\n0 main:0 = 13\n0 main:1 ok\n0 main:0 = 14\n" ++
    codes "0 main:1 ok\n0 main:0 = 15\n0 main:1 ok\n0 main:0 ! EAGAIN Full\n"
unfolding ℕ_discrete digits base created removed filled first_handled handled looks looks_twice lookup_fault path_fault path_components last_component
    by_nodes node_at child_of parent_of unless held at_object at_number any_below lowest_from answer files_after changed answered jumped executed
    stepped_at stepped_by stepped step with_links
forks_until_no_process_is_left = refl

shares_an_offset : trace (programs_of ((Invoke Fork 2 ∷ Invoke (Read (Number 2)) 2 ∷ Halt ∷ []) ∷ [])) (alone base (reading 2 ∷ [])) 0 (event 0 0 ∷ event 1 0 ∷ event 0 0 ∷ []) ≡
    codes "0 main:0 = 1\n1 main:1 = 65 read /work/in\n0 main:1 = 66 read /work/in\n"
unfolding ℕ_discrete digits base created removed filled first_handled handled looks looks_twice lookup_fault path_fault path_components last_component
    by_nodes node_at child_of parent_of unless held at_object at_number any_below lowest_from answer files_after changed answered jumped executed
    stepped_at stepped_by stepped step with_links
shares_an_offset = refl

-- The second process forks: its child has its table, and not the first one's.
forks_from_the_second : trace (programs_of ((Halt ∷ []) ∷ (Invoke Fork 2 ∷ Invoke (Dup (Number 0)) 2 ∷ Halt ∷ []) ∷ [])) joined 0 (event 1 0 ∷ event 2 0 ∷ event 1 0 ∷ []) ≡
    codes "1 child:0 = 2\n2 child:1 = 1\n1 child:1 = 1\n"
unfolding ℕ_discrete digits base created removed filled first_handled handled looks looks_twice lookup_fault path_fault path_components last_component
    by_nodes node_at child_of parent_of unless held at_object at_number any_below lowest_from answer files_after changed answered jumped executed
    stepped_at stepped_by stepped step with_links
forks_from_the_second = refl

-- The first one's child narrows a directory and sends it; the first one's stays as it was.
a_child_sends_what_is_left : trace (programs_of
    ((Invoke Fork 3 ∷ Invoke (Cap_rights_limit (Number 0) 128) 3 ∷ Invoke (Sendfd (Number 2) (Number 0) (Number 0)) 3 ∷ Halt ∷ [])
    ∷ (Invoke (Recvfd (Number 0)) 2 ∷ Invoke (Fstat (Number 1)) 2 ∷ Halt ∷ []) ∷ []))
    joined 0 (event 0 0 ∷ event 2 0 ∷ event 2 0 ∷ event 1 0 ∷ event 1 0 ∷ event 0 0 ∷ []) ≡
    codes "0 main:0 = 2\n2 main:1 = 0\n2 main:2 = 1\n1 child:0 = 1\n1 child:1 ! ENOTCAPABLE MissingRight\n0 main:1 = 0\n"
unfolding ℕ_discrete digits base created removed filled first_handled handled looks looks_twice lookup_fault path_fault path_components last_component
    by_nodes node_at child_of parent_of unless held at_object at_number any_below lowest_from answer files_after changed answered jumped executed
    stepped_at stepped_by stepped step with_links
a_child_sends_what_is_left = refl

fills_a_queue : trace (programs_of ((Invoke Socketpair 3 ∷ Invoke (Write (Number 2) (Number 7)) 3 ∷ Jmp 1 ∷ Halt ∷ []) ∷ [])) (alone base []) 0 (times 34) ≡
    codes "0 main:0 = 2\n0 main:1 = 1\n0 main:2 ok\n0 main:1 = 1\n0 main:2 ok\n0 main:1 = 1\n0 main:2 ok\n0 main:1 = 1\n0 main:2 ok\n" ++
    codes "0 main:1 = 1\n0 main:2 ok\n0 main:1 = 1\n0 main:2 ok\n0 main:1 = 1\n0 main:2 ok\n0 main:1 = 1\n0 main:2 ok\n0 main:1 = 1\n" ++
    codes "0 main:2 ok\n0 main:1 = 1\n0 main:2 ok\n0 main:1 = 1\n0 main:2 ok\n0 main:1 = 1\n0 main:2 ok\n0 main:1 = 1\n0 main:2 ok\n" ++
    codes "0 main:1 = 1\n0 main:2 ok\n0 main:1 = 1\n0 main:2 ok\n0 main:1 = 1\n0 main:2 ok\n0 main:1 wait\n"
unfolding ℕ_discrete digits base created removed filled first_handled handled looks looks_twice lookup_fault path_fault path_components last_component
    by_nodes node_at child_of parent_of unless held at_object at_number any_below lowest_from answer files_after changed answered jumped executed
    stepped_at stepped_by stepped step with_links
fills_a_queue = refl

reads_a_socket_to_its_end : trace (programs_of
    ((Invoke Socketpair 6 ∷ Invoke (Write (Number 2) (Number 7)) 6 ∷ Invoke (Recvfd (Number 3)) 3 ∷ Invoke (Read (Number 3)) 6
    ∷ Invoke (Close (Number 2)) 6 ∷ Invoke (Read (Number 3)) 6 ∷ Halt ∷ []) ∷ [])) (alone base []) 0 (times 6) ≡
    codes "0 main:0 = 2\n0 main:1 = 1\n0 main:2 ! EINVAL Refused\n0 main:3 = 7\n0 main:4 = 0\n0 main:5 = 256\n"
unfolding ℕ_discrete digits base created removed filled first_handled handled looks looks_twice lookup_fault path_fault path_components last_component
    by_nodes node_at child_of parent_of unless held at_object at_number any_below lowest_from answer files_after changed answered jumped executed
    stepped_at stepped_by stepped step with_links
reads_a_socket_to_its_end = refl

a_message_holds_an_end : trace (programs_of
    ((Invoke Socketpair 5 ∷ Invoke Socketpair 5 ∷ Invoke (Sendfd (Number 4) (Number 2) (Number 0)) 5 ∷ Invoke (Close (Number 2)) 5
    ∷ Invoke (Read (Number 3)) 5 ∷ Halt ∷ []) ∷ [])) (alone base []) 0 (times 5) ≡
    codes "0 main:0 = 2\n0 main:1 = 4\n0 main:2 = 1\n0 main:3 = 0\n0 main:4 wait\n"
unfolding ℕ_discrete digits base created removed filled first_handled handled looks looks_twice lookup_fault path_fault path_components last_component
    by_nodes node_at child_of parent_of unless held at_object at_number any_below lowest_from answer files_after changed answered jumped executed
    stepped_at stepped_by stepped step with_links
a_message_holds_an_end = refl

passes_a_file : trace (programs_of ((Invoke (Open (codes "/etc/passwd") (open_request true false false false false)) 2
    ∷ Invoke (Sendfd (Number 2) (Number 3) (Number 0)) 2 ∷ Halt ∷ []) ∷ (Invoke (Recvfd (Number 0)) 2 ∷ Invoke (Read (Number 1)) 2 ∷ Halt ∷ [])
    ∷ [])) joined 0 (event 0 0 ∷ event 0 0 ∷ event 0 0 ∷ event 1 0 ∷ event 1 0 ∷ []) ≡
    codes "0 main:0 walk\n0 main:0 = 3\n0 main:1 = 1\n1 child:0 = 1\n1 child:1 = 120 read /etc/passwd\n"
unfolding ℕ_discrete digits base created removed filled first_handled handled looks looks_twice lookup_fault path_fault path_components last_component
    by_nodes node_at child_of parent_of unless held at_object at_number any_below lowest_from answer files_after changed answered jumped executed
    stepped_at stepped_by stepped step with_links
passes_a_file = refl

passes_a_directory : trace (programs_of ((Invoke (Cap_rights_limit (Number 0) 129) 2 ∷ Invoke (Sendfd (Number 2) (Number 0) (Number 0)) 2 ∷ Halt ∷ [])
    ∷ (Invoke (Recvfd (Number 0)) 3 ∷ Invoke (Openat (Number 1) (codes "in") (open_request true false false false false)) 3
    ∷ Invoke (Read (Number 2)) 3 ∷ Halt ∷ []) ∷ [])) joined 0 (event 1 0 ∷ event 0 0 ∷ event 0 0 ∷ event 1 0 ∷ event 1 0 ∷ event 1 0 ∷ []) ≡
    codes "1 child:0 wait\n0 main:0 = 0\n0 main:1 = 1\n1 child:0 = 1\n1 child:1 = 2\n1 child:2 = 65 read /work/in\n"
unfolding ℕ_discrete digits base created removed filled first_handled handled looks looks_twice lookup_fault path_fault path_components last_component
    by_nodes node_at child_of parent_of unless held at_object at_number any_below lowest_from answer files_after changed answered jumped executed
    stepped_at stepped_by stepped step with_links
passes_a_directory = refl

follows_32_links : trace (programs_of ((Invoke (Openat (Number 0) (codes "l32") (open_request true false false false false)) 2
    ∷ Invoke (Openat (Number 0) (codes "l33") (open_request true false false false false)) 2 ∷ Halt ∷ []) ∷ [])) (alone (with_links 33) []) 0
    (times 67) ≡
    repeated 32 (codes "0 main:0 walk\n") ++ codes "0 main:0 = 2\n" ++ repeated 32 (codes "0 main:1 walk\n") ++ codes "0 main:1 ! ELOOP Path\n0 main:2 halt\n"
unfolding ℕ_discrete digits base created removed filled first_handled handled looks looks_twice lookup_fault path_fault path_components last_component
    by_nodes node_at child_of parent_of unless held at_object at_number any_below lowest_from answer files_after changed answered jumped executed
    stepped_at stepped_by stepped step with_links
follows_32_links = refl
