-- The order of causes: for two causes that are there at once, which one is told. Each row is one world and one call, by
-- computation. Those of calls on names are in NameCauseRows.
use Rattle.std.proofs.Common.{[], ◌≡◌, ◌∷◌, codes, refl}
use Rattle.std.specs.Prelude.{Some, replicate}
use Rattle.std.proofs.Math.Decide.{ℕ_discrete}
use Rattle.rights.specs.Sets.{all_rights, getfl_command, read_right, seek_right}
use Rattle.rights.specs.Errors.{EBADF, ENOTDIR, EISDIR, EINVAL, EMFILE, EFBIG, ENOSPC, EPIPE, ENOTSOCK, ELOOP, ENOTCAPABLE, ECAPMODE, BadDescriptor}
use Rattle.rights.specs.Errors.{CapMode, Escape, MissingRight, Path, Full, Refused}
use Rattle.rights.specs.Errors as errors
use Rattle.file_tree.specs.Places.{path_components}
use Rattle.file_tree.specs.Nodes.{node_at, child_of, parent_of}
use Rattle.file_tree.specs.Changes.{removed, filled}
use Rattle.file_tree.specs.Refusals.{created}
use Rattle.lookup.specs.Answers.{Follow, Keep}
use Rattle.lookup.specs.Paths.{last_component, path_fault}
use Rattle.lookup.specs.ByNodes.{by_nodes}
use Rattle.lookup.specs.Looks.{lookup_fault}
use Rattle.lookup.specs.Walks.{first_handled, handled}
use Rattle.instruction_set.specs.Programs.{Number, Open, Openat, Read, Write, Sendfd, Recvfd, Lseek, Ftruncate, Fsync, Fcntl_setfl}
use Rattle.fd_table.specs.Descriptions.{At_node, descriptor_of}
use Rattle.fd_table.specs.OpenFiles.{any_below, lowest_from}
use Rattle.kernel.specs.Answers.{Pop, Fails, Gives, same, gives, unless, held, at_object, at_number}
use Rattle.kernel.specs.Calls.{looks, looks_twice, answer}
use Rattle.kernel.proofs.Samples.{base}
use Rattle.kernel.proofs.CauseWorlds.{holding, all, with_rights, no_free, writing, dir, file, end_a, end_b, at_end, queued, unblocked, full, quiet, refusing, to_read, to_write}
use Rattle.kernel.proofs.CauseWorlds.{to_make, free_process, in_mode, in_work}

-- in the mode with an empty path
open_asks_the_mode_first : answer (holding (dir ∷ []) (all 0 ∷ [])) 0 in_mode quiet (Open [] to_read) ≡ Fails ECAPMODE CapMode
unfolding ℕ_discrete base created removed filled first_handled handled looks looks_twice lookup_fault path_fault path_components last_component
    by_nodes node_at child_of parent_of unless held at_object at_number any_below lowest_from answer
open_asks_the_mode_first = refl

-- a directory to be written, with no number free
open_asks_the_kind_before_a_number : answer (holding (dir ∷ []) no_free) 0 free_process quiet (Open (codes "/work") to_write) ≡ Fails EISDIR Path
unfolding ℕ_discrete base created removed filled first_handled handled looks looks_twice lookup_fault path_fault path_components last_component
    by_nodes node_at child_of parent_of unless held at_object at_number any_below lowest_from answer
open_asks_the_kind_before_a_number = refl

-- no number free, and the kernel refuses
open_asks_a_number_before_the_kernel : answer (holding (dir ∷ []) no_free) 0 (in_work Follow (codes "in")) refusing (Open (codes "/work/in") to_read) ≡ Fails EMFILE Full
unfolding ℕ_discrete base created removed filled first_handled handled looks looks_twice lookup_fault path_fault path_components last_component
    by_nodes node_at child_of parent_of unless held at_object at_number any_below lowest_from answer
open_asks_a_number_before_the_kernel = refl

-- the same of a directory
open_asks_a_number_for_a_directory_before_the_kernel : answer (holding (dir ∷ []) no_free) 0 free_process refusing (Open (codes "/work") to_read) ≡ Fails EMFILE Full
unfolding ℕ_discrete base created removed filled first_handled handled looks looks_twice lookup_fault path_fault path_components last_component
    by_nodes node_at child_of parent_of unless held at_object at_number any_below lowest_from answer
open_asks_a_number_for_a_directory_before_the_kernel = refl

-- a link that is kept, with no number free
open_asks_for_a_link_before_a_number : answer (holding (dir ∷ []) no_free) 0 (in_work Keep (codes "same")) quiet (Open (codes "/work/same") to_make) ≡ Fails ELOOP Path
unfolding ℕ_discrete base created removed filled first_handled handled looks looks_twice lookup_fault path_fault path_components last_component
    by_nodes node_at child_of parent_of unless held at_object at_number any_below lowest_from answer
open_asks_for_a_link_before_a_number = refl

-- a new file in a full tree, with no number free
open_asks_a_number_before_a_full_tree : answer (full (holding (dir ∷ []) no_free)) 0 free_process quiet (Open (codes "/new") to_make) ≡ Fails EMFILE Full
unfolding ℕ_discrete base created removed filled first_handled handled looks looks_twice lookup_fault path_fault path_components last_component
    by_nodes node_at child_of parent_of unless held at_object at_number any_below lowest_from answer
open_asks_a_number_before_a_full_tree = refl

-- a new file in a full tree, and the kernel refuses
open_asks_for_a_full_tree_before_the_kernel : answer (full (holding (dir ∷ []) (all 0 ∷ []))) 0 free_process refusing (Open (codes "/new") to_make) ≡ Fails ENOSPC Full
unfolding ℕ_discrete base created removed filled first_handled handled looks looks_twice lookup_fault path_fault path_components last_component
    by_nodes node_at child_of parent_of unless held at_object at_number any_below lowest_from answer
open_asks_for_a_full_tree_before_the_kernel = refl

-- a file without LOOKUP
openat_asks_rights_before_the_kind : answer (holding (file ∷ []) (with_rights 0 read_right ∷ [])) 0 free_process quiet (Openat (Number 0) (codes "x") to_read) ≡ Fails ENOTCAPABLE MissingRight
unfolding ℕ_discrete base created removed filled first_handled handled looks looks_twice lookup_fault path_fault path_components last_component
    by_nodes node_at child_of parent_of unless held at_object at_number any_below lowest_from answer
openat_asks_rights_before_the_kind = refl

-- a file, and a path that escapes
openat_asks_the_kind_before_the_path : answer (holding (file ∷ []) (all 0 ∷ [])) 0 free_process quiet (Openat (Number 0) (codes "/x") to_read) ≡ Fails ENOTDIR errors.Kind
unfolding ℕ_discrete base created removed filled first_handled handled looks looks_twice lookup_fault path_fault path_components last_component
    by_nodes node_at child_of parent_of unless held at_object at_number any_below lowest_from answer
openat_asks_the_kind_before_the_path = refl

-- a path that escapes, with no number free
openat_asks_the_path_before_a_number : answer (holding (dir ∷ []) no_free) 0 free_process quiet (Openat (Number 0) (codes "..") to_read) ≡ Fails ENOTCAPABLE Escape
unfolding ℕ_discrete base created removed filled first_handled handled looks looks_twice lookup_fault path_fault path_components last_component
    by_nodes node_at child_of parent_of unless held at_object at_number any_below lowest_from answer
openat_asks_the_path_before_a_number = refl

-- a directory without READ
read_asks_the_right_before_the_kind : answer (holding (dir ∷ []) (with_rights 0 seek_right ∷ [])) 0 free_process quiet (Read (Number 0)) ≡ Fails ENOTCAPABLE MissingRight
unfolding ℕ_discrete base created removed filled first_handled handled looks looks_twice lookup_fault path_fault path_components last_component
    by_nodes node_at child_of parent_of unless held at_object at_number any_below lowest_from answer
read_asks_the_right_before_the_kind = refl

-- a directory that is open for writing
read_asks_the_kind_before_the_access : answer (holding (At_node 1 writing ∷ []) (all 0 ∷ [])) 0 free_process quiet (Read (Number 0)) ≡ Fails EISDIR errors.Kind
unfolding ℕ_discrete base created removed filled first_handled handled looks looks_twice lookup_fault path_fault path_components last_component
    by_nodes node_at child_of parent_of unless held at_object at_number any_below lowest_from answer
read_asks_the_kind_before_the_access = refl

-- a socket without READ, where nothing was sent
read_asks_the_right_before_it_waits : answer (holding (end_a ∷ end_b ∷ []) (with_rights 0 seek_right ∷ all 1 ∷ [])) 0 free_process quiet (Read (Number 0)) ≡ Fails ENOTCAPABLE MissingRight
unfolding ℕ_discrete base created removed filled first_handled handled looks looks_twice lookup_fault path_fault path_components last_component
    by_nodes node_at child_of parent_of unless held at_object at_number any_below lowest_from answer
read_asks_the_right_before_it_waits = refl

-- a socket that doesn't block, where nothing was sent and the other end is closed
read_asks_the_other_end_before_it_would_block : answer (unblocked (holding (end_a ∷ []) (all 0 ∷ []))) 0 free_process quiet (Read (Number 0)) ≡ gives 256
unfolding ℕ_discrete base created removed filled first_handled handled looks looks_twice lookup_fault path_fault path_components last_component
    by_nodes node_at child_of parent_of unless held at_object at_number any_below lowest_from answer
read_asks_the_other_end_before_it_would_block = refl

-- a message was sent, and then the other end was closed
read_asks_for_a_message_before_the_other_end : answer (queued 1 (holding (end_a ∷ []) (all 0 ∷ []))) 0 free_process quiet (Read (Number 0)) ≡ Gives 0 (record same { queue = Pop 0 1 }) []
unfolding ℕ_discrete base created removed filled first_handled handled looks looks_twice lookup_fault path_fault path_components last_component
    by_nodes node_at child_of parent_of unless held at_object at_number any_below lowest_from answer
read_asks_for_a_message_before_the_other_end = refl

-- a directory without WRITE
write_asks_the_right_before_the_kind : answer (holding (dir ∷ []) (with_rights 0 seek_right ∷ [])) 0 free_process quiet (Write (Number 0) (Number 1)) ≡ Fails ENOTCAPABLE MissingRight
unfolding ℕ_discrete base created removed filled first_handled handled looks looks_twice lookup_fault path_fault path_components last_component
    by_nodes node_at child_of parent_of unless held at_object at_number any_below lowest_from answer
write_asks_the_right_before_the_kind = refl

-- a directory that is open for reading
write_asks_the_kind_before_the_access : answer (holding (dir ∷ []) (all 0 ∷ [])) 0 free_process quiet (Write (Number 0) (Number 1)) ≡ Fails EISDIR errors.Kind
unfolding ℕ_discrete base created removed filled first_handled handled looks looks_twice lookup_fault path_fault path_components last_component
    by_nodes node_at child_of parent_of unless held at_object at_number any_below lowest_from answer
write_asks_the_kind_before_the_access = refl

-- a file that is open for reading, at its greatest length
write_asks_the_access_before_the_room : answer (at_end (holding (file ∷ []) (all 0 ∷ []))) 0 free_process quiet (Write (Number 0) (Number 1)) ≡ Fails EBADF errors.Access
unfolding ℕ_discrete base created removed filled first_handled handled looks looks_twice lookup_fault path_fault path_components last_component
    by_nodes node_at child_of parent_of unless held at_object at_number any_below lowest_from answer
write_asks_the_access_before_the_room = refl

-- at the greatest length, and the kernel refuses
write_asks_the_room_before_the_kernel : answer (at_end (holding (At_node 2 writing ∷ []) (all 0 ∷ []))) 0 free_process refusing (Write (Number 0) (Number 1)) ≡ Fails EFBIG Full
unfolding ℕ_discrete base created removed filled first_handled handled looks looks_twice lookup_fault path_fault path_components last_component
    by_nodes node_at child_of parent_of unless held at_object at_number any_below lowest_from answer
write_asks_the_room_before_the_kernel = refl

-- a socket without WRITE, and the kernel refuses
write_asks_the_right_before_the_kernel : answer (holding (end_a ∷ []) (with_rights 0 seek_right ∷ [])) 0 free_process refusing (Write (Number 0) (Number 1)) ≡ Fails ENOTCAPABLE MissingRight
unfolding ℕ_discrete base created removed filled first_handled handled looks looks_twice lookup_fault path_fault path_components last_component
    by_nodes node_at child_of parent_of unless held at_object at_number any_below lowest_from answer
write_asks_the_right_before_the_kernel = refl

-- a socket whose other end is closed, and the kernel refuses
write_asks_the_kernel_before_the_other_end : answer (holding (end_a ∷ []) (all 0 ∷ [])) 0 free_process refusing (Write (Number 0) (Number 1)) ≡ Fails ENOSPC Refused
unfolding ℕ_discrete base created removed filled first_handled handled looks looks_twice lookup_fault path_fault path_components last_component
    by_nodes node_at child_of parent_of unless held at_object at_number any_below lowest_from answer
write_asks_the_kernel_before_the_other_end = refl

-- a full queue to a closed end
write_asks_the_other_end_before_the_room : answer (queued 16 (holding (end_a ∷ []) (all 0 ∷ []))) 0 free_process quiet (Write (Number 0) (Number 1)) ≡ Fails EPIPE Refused
unfolding ℕ_discrete base created removed filled first_handled handled looks looks_twice lookup_fault path_fault path_components last_component
    by_nodes node_at child_of parent_of unless held at_object at_number any_below lowest_from answer
write_asks_the_other_end_before_the_room = refl

-- without WRITE, and a second number that isn't open
sendfd_asks_both_before_the_right : answer (holding (end_a ∷ []) (with_rights 0 seek_right ∷ [])) 0 free_process quiet (Sendfd (Number 0) (Number 1) (Number 0)) ≡ Fails EBADF BadDescriptor
unfolding ℕ_discrete base created removed filled first_handled handled looks looks_twice lookup_fault path_fault path_components last_component
    by_nodes node_at child_of parent_of unless held at_object at_number any_below lowest_from answer
sendfd_asks_both_before_the_right = refl

-- a file without WRITE
sendfd_asks_the_right_before_the_kind : answer (holding (file ∷ []) (with_rights 0 seek_right ∷ [])) 0 free_process quiet (Sendfd (Number 0) (Number 0) (Number 0)) ≡ Fails ENOTCAPABLE MissingRight
unfolding ℕ_discrete base created removed filled first_handled handled looks looks_twice lookup_fault path_fault path_components last_component
    by_nodes node_at child_of parent_of unless held at_object at_number any_below lowest_from answer
sendfd_asks_the_right_before_the_kind = refl

-- without WRITE, and the other end is closed
sendfd_asks_the_right_before_the_other_end : answer (holding (end_a ∷ []) (with_rights 0 seek_right ∷ [])) 0 free_process quiet
    (Sendfd (Number 0) (Number 0) (Number 0)) ≡ Fails ENOTCAPABLE MissingRight
unfolding ℕ_discrete base created removed filled first_handled handled looks looks_twice lookup_fault path_fault path_components last_component
    by_nodes node_at child_of parent_of unless held at_object at_number any_below lowest_from answer
sendfd_asks_the_right_before_the_other_end = refl

-- the other end is closed, and the kernel refuses
sendfd_is_not_refused_by_the_kernel : answer (holding (end_a ∷ []) (all 0 ∷ [])) 0 free_process refusing (Sendfd (Number 0) (Number 0) (Number 0)) ≡ Fails EPIPE Refused
unfolding ℕ_discrete base created removed filled first_handled handled looks looks_twice lookup_fault path_fault path_components last_component
    by_nodes node_at child_of parent_of unless held at_object at_number any_below lowest_from answer
sendfd_is_not_refused_by_the_kernel = refl

-- a file without READ
recvfd_asks_the_right_before_the_kind : answer (holding (file ∷ []) (with_rights 0 seek_right ∷ [])) 0 free_process quiet (Recvfd (Number 0)) ≡ Fails ENOTCAPABLE MissingRight
unfolding ℕ_discrete base created removed filled first_handled handled looks looks_twice lookup_fault path_fault path_components last_component
    by_nodes node_at child_of parent_of unless held at_object at_number any_below lowest_from answer
recvfd_asks_the_right_before_the_kind = refl

-- a file, with no number free
recvfd_asks_the_kind_before_a_number : answer (holding (file ∷ []) no_free) 0 free_process quiet (Recvfd (Number 0)) ≡ Fails ENOTSOCK errors.Kind
unfolding ℕ_discrete base created removed filled first_handled handled looks looks_twice lookup_fault path_fault path_components last_component
    by_nodes node_at child_of parent_of unless held at_object at_number any_below lowest_from answer
recvfd_asks_the_kind_before_a_number = refl

-- an empty queue, with no number free
recvfd_asks_a_number_before_it_waits : answer (holding (end_a ∷ end_b ∷ []) (all 1 ∷ replicate 15 (all 0))) 0 free_process quiet (Recvfd (Number 0)) ≡ Fails EMFILE Full
unfolding ℕ_discrete base created removed filled first_handled handled looks looks_twice lookup_fault path_fault path_components last_component
    by_nodes node_at child_of parent_of unless held at_object at_number any_below lowest_from answer
recvfd_asks_a_number_before_it_waits = refl

-- a socket without READ, with no number free
recvfd_asks_the_right_before_a_number : answer (holding (end_a ∷ []) (replicate 16 (with_rights 0 seek_right))) 0 free_process quiet (Recvfd (Number 0)) ≡ Fails ENOTCAPABLE MissingRight
unfolding ℕ_discrete base created removed filled first_handled handled looks looks_twice lookup_fault path_fault path_components last_component
    by_nodes node_at child_of parent_of unless held at_object at_number any_below lowest_from answer
recvfd_asks_the_right_before_a_number = refl

-- the other end is closed, with no number free
recvfd_asks_a_number_before_the_other_end : answer (holding (end_a ∷ []) no_free) 0 free_process quiet (Recvfd (Number 0)) ≡ Fails EMFILE Full
unfolding ℕ_discrete base created removed filled first_handled handled looks looks_twice lookup_fault path_fault path_components last_component
    by_nodes node_at child_of parent_of unless held at_object at_number any_below lowest_from answer
recvfd_asks_a_number_before_the_other_end = refl

-- a message without a descriptor, with no number free
recvfd_asks_a_number_before_the_message : answer (queued 1 (holding (end_a ∷ []) no_free)) 0 free_process quiet (Recvfd (Number 0)) ≡ Fails EMFILE Full
unfolding ℕ_discrete base created removed filled first_handled handled looks looks_twice lookup_fault path_fault path_components last_component
    by_nodes node_at child_of parent_of unless held at_object at_number any_below lowest_from answer
recvfd_asks_a_number_before_the_message = refl

-- a socket that doesn't block, where nothing was sent and the other end is closed
recvfd_asks_the_other_end_before_it_would_block : answer (unblocked (holding (end_a ∷ []) (all 0 ∷ []))) 0 free_process quiet (Recvfd (Number 0)) ≡ Fails EINVAL Refused
unfolding ℕ_discrete base created removed filled first_handled handled looks looks_twice lookup_fault path_fault path_components last_component
    by_nodes node_at child_of parent_of unless held at_object at_number any_below lowest_from answer
recvfd_asks_the_other_end_before_it_would_block = refl

-- a directory without SEEK
lseek_asks_the_right_before_the_kind : answer (holding (dir ∷ []) (with_rights 0 read_right ∷ [])) 0 free_process quiet (Lseek (Number 0) (Number 5000)) ≡ Fails ENOTCAPABLE MissingRight
unfolding ℕ_discrete base created removed filled first_handled handled looks looks_twice lookup_fault path_fault path_components last_component
    by_nodes node_at child_of parent_of unless held at_object at_number any_below lowest_from answer
lseek_asks_the_right_before_the_kind = refl

-- a directory, past the greatest offset
lseek_asks_the_kind_before_the_offset : answer (holding (dir ∷ []) (all 0 ∷ [])) 0 free_process quiet (Lseek (Number 0) (Number 5000)) ≡ Fails EINVAL errors.Kind
unfolding ℕ_discrete base created removed filled first_handled handled looks looks_twice lookup_fault path_fault path_components last_component
    by_nodes node_at child_of parent_of unless held at_object at_number any_below lowest_from answer
lseek_asks_the_kind_before_the_offset = refl

-- a directory without FTRUNCATE
ftruncate_asks_the_right_before_the_kind : answer (holding (dir ∷ []) (with_rights 0 read_right ∷ [])) 0 free_process quiet (Ftruncate (Number 0) (Number 0)) ≡ Fails ENOTCAPABLE MissingRight
unfolding ℕ_discrete base created removed filled first_handled handled looks looks_twice lookup_fault path_fault path_components last_component
    by_nodes node_at child_of parent_of unless held at_object at_number any_below lowest_from answer
ftruncate_asks_the_right_before_the_kind = refl

-- a directory that is open for reading
ftruncate_asks_the_kind_before_the_access : answer (holding (dir ∷ []) (all 0 ∷ [])) 0 free_process quiet (Ftruncate (Number 0) (Number 5000)) ≡ Fails EINVAL errors.Kind
unfolding ℕ_discrete base created removed filled first_handled handled looks looks_twice lookup_fault path_fault path_components last_component
    by_nodes node_at child_of parent_of unless held at_object at_number any_below lowest_from answer
ftruncate_asks_the_kind_before_the_access = refl

-- a file that is open for reading, past the greatest length
ftruncate_asks_the_access_before_the_length : answer (holding (file ∷ []) (all 0 ∷ [])) 0 free_process quiet (Ftruncate (Number 0) (Number 5000)) ≡ Fails EINVAL errors.Access
unfolding ℕ_discrete base created removed filled first_handled handled looks looks_twice lookup_fault path_fault path_components last_component
    by_nodes node_at child_of parent_of unless held at_object at_number any_below lowest_from answer
ftruncate_asks_the_access_before_the_length = refl

-- a socket without FSYNC
fsync_asks_the_right_before_the_kind : answer (holding (end_a ∷ []) (with_rights 0 read_right ∷ [])) 0 free_process quiet (Fsync (Number 0)) ≡ Fails ENOTCAPABLE MissingRight
unfolding ℕ_discrete base created removed filled first_handled handled looks looks_twice lookup_fault path_fault path_components last_component
    by_nodes node_at child_of parent_of unless held at_object at_number any_below lowest_from answer
fsync_asks_the_right_before_the_kind = refl

-- flags that there are not, without SETFL
fcntl_setfl_asks_the_command_before_the_flags : answer
    (holding (file ∷ []) (Some (descriptor_of 0 all_rights getfl_command) ∷ [])) 0 free_process quiet
    (Fcntl_setfl (Number 0) (Number 4)) ≡ Fails ENOTCAPABLE MissingRight
unfolding ℕ_discrete base created removed filled first_handled handled looks looks_twice lookup_fault path_fault path_components last_component
    by_nodes node_at child_of parent_of unless held at_object at_number any_below lowest_from answer
fcntl_setfl_asks_the_command_before_the_flags = refl

-- flags that there are not, without FCNTL
fcntl_setfl_asks_the_right_before_the_flags : answer (holding (file ∷ []) (with_rights 0 read_right ∷ [])) 0 free_process quiet (Fcntl_setfl (Number 0) (Number 4)) ≡ Fails ENOTCAPABLE MissingRight
unfolding ℕ_discrete base created removed filled first_handled handled looks looks_twice lookup_fault path_fault path_components last_component
    by_nodes node_at child_of parent_of unless held at_object at_number any_below lowest_from answer
fcntl_setfl_asks_the_right_before_the_flags = refl
