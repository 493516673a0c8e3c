-- The order of causes of calls on names: for two causes that are there at once, which one is told. Each row is one world and
-- one call, by computation.
use Rattle.std.proofs.Common.{[], ◌≡◌, false, ◌∷◌, codes, refl}
use Rattle.std.specs.Prelude.{replicate}
use Rattle.std.proofs.Math.Decide.{ℕ_discrete}
use Rattle.rights.specs.Sets.{lookup_right, read_right}
use Rattle.rights.specs.Errors.{EPERM, ENOENT, EBADF, EEXIST, ENOTDIR, EISDIR, EINVAL, EMFILE, ENOSPC, EAGAIN, ENOTCAPABLE, ECAPMODE, BadDescriptor}
use Rattle.rights.specs.Errors.{CapMode, Escape, MissingRight, Path, Full}
use Rattle.rights.specs.Errors as errors
use Rattle.file_tree.specs.Places.{path_components}
use Rattle.file_tree.specs.Nodes.{node_at, child_of, parent_of}
use Rattle.file_tree.specs.Changes.{removed, filled}
use Rattle.file_tree.specs.Refusals.{created}
use Rattle.lookup.specs.Answers.{Beneath, Keep}
use Rattle.lookup.specs.Paths.{last_component, path_fault}
use Rattle.lookup.specs.ByNodes.{by_nodes}
use Rattle.lookup.specs.Looks.{lookup_fault}
use Rattle.lookup.specs.Walks.{first_handled, handled}
use Rattle.process.specs.State.{Two}
use Rattle.instruction_set.specs.Programs.{Number, Fstatat, Stat, Mkdirat, Mkdir, Unlinkat, Unlink}
use Rattle.instruction_set.specs.Programs.{Renameat, Dup, Socketpair, Fork}
use Rattle.fd_table.specs.OpenFiles.{any_below, lowest_from}
use Rattle.kernel.specs.Answers.{Fails, gives, unless, held, at_object, at_number}
use Rattle.kernel.specs.Calls.{looks, looks_twice, answer}
use Rattle.kernel.proofs.Samples.{base}
use Rattle.kernel.proofs.CauseWorlds.{holding, all, with_rights, to_rename_to, no_free, dir, root, file, out, crowded, full, deep, without_out, quiet, refusing, free_process}
use Rattle.kernel.proofs.CauseWorlds.{in_mode, at_last, walking}

-- a file without FSTATAT
fstatat_asks_the_right_before_the_kind : answer (holding (file ∷ []) (with_rights 0 read_right ∷ [])) 0 free_process quiet (Fstatat (Number 0) (codes "x")) ≡ Fails ENOTCAPABLE MissingRight
unfolding ℕ_discrete base created removed filled first_handled handled looks looks_twice lookup_fault path_fault path_components last_component
    by_nodes node_at child_of parent_of unless held at_object at_number any_below lowest_from answer
fstatat_asks_the_right_before_the_kind = refl

-- a file, and a path that escapes
fstatat_asks_the_kind_before_the_path : answer (holding (file ∷ []) (all 0 ∷ [])) 0 free_process quiet (Fstatat (Number 0) (codes "/x")) ≡ Fails ENOTDIR errors.Kind
unfolding ℕ_discrete base created removed filled first_handled handled looks looks_twice lookup_fault path_fault path_components last_component
    by_nodes node_at child_of parent_of unless held at_object at_number any_below lowest_from answer
fstatat_asks_the_kind_before_the_path = refl

-- in the mode, a path that isn't there
stat_asks_the_mode_first : answer (holding (dir ∷ []) (all 0 ∷ [])) 0 in_mode quiet (Stat (codes "/nope")) ≡ Fails ECAPMODE CapMode
unfolding ℕ_discrete base created removed filled first_handled handled looks looks_twice lookup_fault path_fault path_components last_component
    by_nodes node_at child_of parent_of unless held at_object at_number any_below lowest_from answer
stat_asks_the_mode_first = refl

-- in the mode, a path without a name
mkdir_asks_the_mode_first : answer (holding (dir ∷ []) (all 0 ∷ [])) 0 in_mode quiet (Mkdir (codes "/")) ≡ Fails ECAPMODE CapMode
unfolding ℕ_discrete base created removed filled first_handled handled looks looks_twice lookup_fault path_fault path_components last_component
    by_nodes node_at child_of parent_of unless held at_object at_number any_below lowest_from answer
mkdir_asks_the_mode_first = refl

-- a file without MKDIRAT
mkdirat_asks_the_right_before_the_kind : answer (holding (file ∷ []) (with_rights 0 read_right ∷ [])) 0 free_process quiet (Mkdirat (Number 0) (codes "x")) ≡ Fails ENOTCAPABLE MissingRight
unfolding ℕ_discrete base created removed filled first_handled handled looks looks_twice lookup_fault path_fault path_components last_component
    by_nodes node_at child_of parent_of unless held at_object at_number any_below lowest_from answer
mkdirat_asks_the_right_before_the_kind = refl

-- a file, and a path that escapes
mkdirat_asks_the_kind_before_the_path : answer (holding (file ∷ []) (all 0 ∷ [])) 0 free_process quiet (Mkdirat (Number 0) (codes "/x")) ≡ Fails ENOTDIR errors.Kind
unfolding ℕ_discrete base created removed filled first_handled handled looks looks_twice lookup_fault path_fault path_components last_component
    by_nodes node_at child_of parent_of unless held at_object at_number any_below lowest_from answer
mkdirat_asks_the_kind_before_the_path = refl

-- a path that escapes, in a full tree, and the kernel refuses
mkdirat_asks_for_an_escape_before_a_full_tree : answer (full (holding (dir ∷ []) (all 0 ∷ []))) 0 free_process refusing (Mkdirat (Number 0) (codes "/x")) ≡ Fails ENOTCAPABLE Escape
unfolding ℕ_discrete base created removed filled first_handled handled looks looks_twice lookup_fault path_fault path_components last_component
    by_nodes node_at child_of parent_of unless held at_object at_number any_below lowest_from answer
mkdirat_asks_for_an_escape_before_a_full_tree = refl

-- a name that is taken, in a full tree
mkdirat_asks_the_path_before_a_full_tree : answer (full (holding (dir ∷ []) (all 0 ∷ []))) 0 free_process quiet (Mkdirat (Number 0) (codes "in")) ≡ Fails EEXIST Path
unfolding ℕ_discrete base created removed filled first_handled handled looks looks_twice lookup_fault path_fault path_components last_component
    by_nodes node_at child_of parent_of unless held at_object at_number any_below lowest_from answer
mkdirat_asks_the_path_before_a_full_tree = refl

-- a full tree, and the kernel refuses
mkdirat_asks_for_a_full_tree_before_the_kernel : answer (full (holding (dir ∷ []) (all 0 ∷ []))) 0 free_process refusing (Mkdirat (Number 0) (codes "new")) ≡ Fails ENOSPC Full
unfolding ℕ_discrete base created removed filled first_handled handled looks looks_twice lookup_fault path_fault path_components last_component
    by_nodes node_at child_of parent_of unless held at_object at_number any_below lowest_from answer
mkdirat_asks_for_a_full_tree_before_the_kernel = refl

-- a name that is taken, and the kernel refuses
mkdirat_asks_the_path_before_the_kernel : answer (holding (dir ∷ []) (all 0 ∷ [])) 0 free_process refusing (Mkdirat (Number 0) (codes "in")) ≡ Fails EEXIST Path
unfolding ℕ_discrete base created removed filled first_handled handled looks looks_twice lookup_fault path_fault path_components last_component
    by_nodes node_at child_of parent_of unless held at_object at_number any_below lowest_from answer
mkdirat_asks_the_path_before_the_kernel = refl

-- in the mode, a path without a name
unlink_asks_the_mode_first : answer (holding (dir ∷ []) (all 0 ∷ [])) 0 in_mode quiet (Unlink (codes "/") false) ≡ Fails ECAPMODE CapMode
unfolding ℕ_discrete base created removed filled first_handled handled looks looks_twice lookup_fault path_fault path_components last_component
    by_nodes node_at child_of parent_of unless held at_object at_number any_below lowest_from answer
unlink_asks_the_mode_first = refl

-- a file without UNLINKAT
unlinkat_asks_the_right_before_the_kind : answer (holding (file ∷ []) (with_rights 0 read_right ∷ [])) 0 free_process quiet (Unlinkat (Number 0) (codes "x") false) ≡ Fails ENOTCAPABLE MissingRight
unfolding ℕ_discrete base created removed filled first_handled handled looks looks_twice lookup_fault path_fault path_components last_component
    by_nodes node_at child_of parent_of unless held at_object at_number any_below lowest_from answer
unlinkat_asks_the_right_before_the_kind = refl

-- a file, and a path that escapes
unlinkat_asks_the_kind_before_the_path : answer (holding (file ∷ []) (all 0 ∷ [])) 0 free_process quiet (Unlinkat (Number 0) (codes "/x") false) ≡ Fails ENOTDIR errors.Kind
unfolding ℕ_discrete base created removed filled first_handled handled looks looks_twice lookup_fault path_fault path_components last_component
    by_nodes node_at child_of parent_of unless held at_object at_number any_below lowest_from answer
unlinkat_asks_the_kind_before_the_path = refl

-- a directory that isn't empty, as a file
unlinkat_asks_the_kind_before_what_is_below : answer (holding (root ∷ []) (all 0 ∷ [])) 0 free_process quiet (Unlinkat (Number 0) (codes "work") false) ≡ Fails EPERM Path
unfolding ℕ_discrete base created removed filled first_handled handled looks looks_twice lookup_fault path_fault path_components last_component
    by_nodes node_at child_of parent_of unless held at_object at_number any_below lowest_from answer
unlinkat_asks_the_kind_before_what_is_below = refl

-- the first is a file, and the second lacks RENAMEAT_TARGET
renameat_asks_rights_before_the_kinds : answer (holding (file ∷ dir ∷ []) (all 0 ∷ with_rights 1 lookup_right ∷ [])) 0 free_process quiet
    (Renameat (Number 0) (codes "x") (Number 1) (codes "y")) ≡ Fails ENOTCAPABLE MissingRight
unfolding ℕ_discrete base created removed filled first_handled handled looks looks_twice lookup_fault path_fault path_components last_component
    by_nodes node_at child_of parent_of unless held at_object at_number any_below lowest_from answer
renameat_asks_rights_before_the_kinds = refl

-- the first lacks its rights, and the second isn't open
renameat_asks_both_before_the_rights : answer (holding (dir ∷ []) (with_rights 0 read_right ∷ [])) 0 free_process quiet
    (Renameat (Number 0) (codes "in") (Number 1) (codes "y")) ≡ Fails EBADF BadDescriptor
unfolding ℕ_discrete base created removed filled first_handled handled looks looks_twice lookup_fault path_fault path_components last_component
    by_nodes node_at child_of parent_of unless held at_object at_number any_below lowest_from answer
renameat_asks_both_before_the_rights = refl

-- the first lacks its rights, and the second is a file
renameat_asks_the_first_right_before_the_second_kind : answer (holding (dir ∷ file ∷ []) (with_rights 0 read_right ∷ all 1 ∷ [])) 0 free_process quiet
    (Renameat (Number 0) (codes "in") (Number 1) (codes "y")) ≡ Fails ENOTCAPABLE MissingRight
unfolding ℕ_discrete base created removed filled first_handled handled looks looks_twice lookup_fault path_fault path_components last_component
    by_nodes node_at child_of parent_of unless held at_object at_number any_below lowest_from answer
renameat_asks_the_first_right_before_the_second_kind = refl

-- the first is a file without its rights
renameat_asks_the_first_right_before_its_kind : answer (holding (file ∷ dir ∷ []) (with_rights 0 read_right ∷ all 1 ∷ [])) 0 free_process quiet
    (Renameat (Number 0) (codes "x") (Number 1) (codes "y")) ≡ Fails ENOTCAPABLE MissingRight
unfolding ℕ_discrete base created removed filled first_handled handled looks looks_twice lookup_fault path_fault path_components last_component
    by_nodes node_at child_of parent_of unless held at_object at_number any_below lowest_from answer
renameat_asks_the_first_right_before_its_kind = refl

-- the second is a file without its rights
renameat_asks_the_second_right_before_its_kind : answer (holding (dir ∷ file ∷ []) (all 0 ∷ with_rights 1 read_right ∷ [])) 0 free_process quiet
    (Renameat (Number 0) (codes "in") (Number 1) (codes "y")) ≡ Fails ENOTCAPABLE MissingRight
unfolding ℕ_discrete base created removed filled first_handled handled looks looks_twice lookup_fault path_fault path_components last_component
    by_nodes node_at child_of parent_of unless held at_object at_number any_below lowest_from answer
renameat_asks_the_second_right_before_its_kind = refl

-- the first is a file, and its path escapes
renameat_asks_the_first_kind_before_the_source : answer (holding (file ∷ dir ∷ []) (all 0 ∷ all 1 ∷ [])) 0 free_process quiet
    (Renameat (Number 0) (codes "/x") (Number 1) (codes "y")) ≡ Fails ENOTDIR errors.Kind
unfolding ℕ_discrete base created removed filled first_handled handled looks looks_twice lookup_fault path_fault path_components last_component
    by_nodes node_at child_of parent_of unless held at_object at_number any_below lowest_from answer
renameat_asks_the_first_kind_before_the_source = refl

-- a source that isn't there, and the second is a file
renameat_asks_the_second_kind_before_the_source : answer (holding (dir ∷ file ∷ []) (all 0 ∷ all 1 ∷ [])) 0 free_process quiet
    (Renameat (Number 0) (codes "nope") (Number 1) (codes "y")) ≡ Fails ENOTDIR errors.Kind
unfolding ℕ_discrete base created removed filled first_handled handled looks looks_twice lookup_fault path_fault path_components last_component
    by_nodes node_at child_of parent_of unless held at_object at_number any_below lowest_from answer
renameat_asks_the_second_kind_before_the_source = refl

-- both texts are wrong, the first by an escape
renameat_asks_the_first_path_before_the_second : answer (holding (dir ∷ []) (all 0 ∷ [])) 0 free_process quiet (Renameat (Number 0) (codes "/x") (Number 0) (codes "..")) ≡ Fails ENOTCAPABLE Escape
unfolding ℕ_discrete base created removed filled first_handled handled looks looks_twice lookup_fault path_fault path_components last_component
    by_nodes node_at child_of parent_of unless held at_object at_number any_below lowest_from answer
renameat_asks_the_first_path_before_the_second = refl

-- a file to where it is, without UNLINKAT
renameat_asks_for_the_same_node_before_the_right_to_replace : answer (holding (dir ∷ []) (all 0 ∷ to_rename_to ∷ [])) 0 free_process quiet
    (Renameat (Number 0) (codes "in") (Number 1) (codes "in")) ≡ gives 0
unfolding ℕ_discrete base created removed filled first_handled handled looks looks_twice lookup_fault path_fault path_components last_component
    by_nodes node_at child_of parent_of unless held at_object at_number any_below lowest_from answer
renameat_asks_for_the_same_node_before_the_right_to_replace = refl

-- the first directory was removed, and the second text can't be kept
renameat_asks_the_first_start_before_the_second_path : answer (without_out (holding (out ∷ dir ∷ []) (all 0 ∷ all 1 ∷ []))) 0 free_process quiet
    (Renameat (Number 0) (codes "x") (Number 1) (codes "..")) ≡ Fails ENOENT Path
unfolding ℕ_discrete base created removed filled first_handled handled looks looks_twice lookup_fault path_fault path_components last_component
    by_nodes node_at child_of parent_of unless held at_object at_number any_below lowest_from answer
renameat_asks_the_first_start_before_the_second_path = refl

-- a target that can't be kept, and its directory was removed
renameat_asks_the_second_path_before_its_start : answer (without_out (holding (dir ∷ out ∷ []) (all 0 ∷ all 1 ∷ []))) 0 free_process quiet
    (Renameat (Number 0) (codes "in") (Number 1) (codes "..")) ≡ Fails EINVAL Path
unfolding ℕ_discrete base created removed filled first_handled handled looks looks_twice lookup_fault path_fault path_components last_component
    by_nodes node_at child_of parent_of unless held at_object at_number any_below lowest_from answer
renameat_asks_the_second_path_before_its_start = refl

-- a target that can't be kept, and a source that isn't there
renameat_asks_the_text_of_the_target_before_the_source : answer (holding (dir ∷ []) (all 0 ∷ [])) 0 free_process quiet (Renameat (Number 0) (codes "nope") (Number 0) (codes "..")) ≡ Fails EINVAL Path
unfolding ℕ_discrete base created removed filled first_handled handled looks looks_twice lookup_fault path_fault path_components last_component
    by_nodes node_at child_of parent_of unless held at_object at_number any_below lowest_from answer
renameat_asks_the_text_of_the_target_before_the_source = refl

-- a source that isn't there, and a target in a file
renameat_asks_the_source_before_the_target : answer (holding (dir ∷ []) (all 0 ∷ [])) 0
    (walking (Two (at_last Beneath Keep 1 [] (codes "nope")) (at_last Beneath Keep 2 (1 ∷ []) (codes "y")))) quiet
    (Renameat (Number 0) (codes "nope") (Number 0) (codes "in/y")) ≡ Fails ENOENT Path
unfolding ℕ_discrete base created removed filled first_handled handled looks looks_twice lookup_fault path_fault path_components last_component
    by_nodes node_at child_of parent_of unless held at_object at_number any_below lowest_from answer
renameat_asks_the_source_before_the_target = refl

-- over a file below itself, without UNLINKAT
renameat_asks_the_right_to_replace_first : answer (holding (dir ∷ root ∷ []) (all 1 ∷ to_rename_to ∷ [])) 0 free_process quiet
    (Renameat (Number 0) (codes "work") (Number 1) (codes "in")) ≡ Fails ENOTCAPABLE MissingRight
unfolding ℕ_discrete base created removed filled first_handled handled looks looks_twice lookup_fault path_fault path_components last_component
    by_nodes node_at child_of parent_of unless held at_object at_number any_below lowest_from answer
renameat_asks_the_right_to_replace_first = refl

-- a directory over a file below it
renameat_asks_into_itself_before_the_kinds : answer (holding (root ∷ dir ∷ []) (all 0 ∷ all 1 ∷ [])) 0 free_process quiet (Renameat (Number 0) (codes "work") (Number 1) (codes "in")) ≡
    Fails EINVAL Path
unfolding ℕ_discrete base created removed filled first_handled handled looks looks_twice lookup_fault path_fault path_components last_component
    by_nodes node_at child_of parent_of unless held at_object at_number any_below lowest_from answer
renameat_asks_into_itself_before_the_kinds = refl

-- a directory over one below it that isn't empty
renameat_asks_into_itself_before_what_is_below : answer (deep (holding (root ∷ dir ∷ []) (all 0 ∷ all 1 ∷ []))) 0 free_process quiet
    (Renameat (Number 0) (codes "work") (Number 1) (codes "out")) ≡ Fails EINVAL Path
unfolding ℕ_discrete base created removed filled first_handled handled looks looks_twice lookup_fault path_fault path_components last_component
    by_nodes node_at child_of parent_of unless held at_object at_number any_below lowest_from answer
renameat_asks_into_itself_before_what_is_below = refl

-- a file over a directory that isn't empty
renameat_asks_the_kinds_before_what_is_below : answer (holding (dir ∷ root ∷ []) (all 0 ∷ all 1 ∷ [])) 0 free_process quiet (Renameat (Number 0) (codes "in") (Number 1) (codes "workshop"))
    ≡ Fails EISDIR Path
unfolding ℕ_discrete base created removed filled first_handled handled looks looks_twice lookup_fault path_fault path_components last_component
    by_nodes node_at child_of parent_of unless held at_object at_number any_below lowest_from answer
renameat_asks_the_kinds_before_what_is_below = refl

-- a number that isn't open, with none free
dup_asks_the_descriptor_before_a_number : answer (holding (dir ∷ []) no_free) 0 free_process quiet (Dup (Number 20)) ≡ Fails EBADF BadDescriptor
unfolding ℕ_discrete base created removed filled first_handled handled looks looks_twice lookup_fault path_fault path_components last_component
    by_nodes node_at child_of parent_of unless held at_object at_number any_below lowest_from answer
dup_asks_the_descriptor_before_a_number = refl

-- one number is free, and the kernel refuses
socketpair_asks_numbers_before_the_kernel : answer (holding (dir ∷ []) (replicate 15 (all 0))) 0 free_process refusing (Socketpair) ≡ Fails EMFILE Full
unfolding ℕ_discrete base created removed filled first_handled handled looks looks_twice lookup_fault path_fault path_components last_component
    by_nodes node_at child_of parent_of unless held at_object at_number any_below lowest_from answer
socketpair_asks_numbers_before_the_kernel = refl

-- no number is free, and the kernel refuses
socketpair_asks_the_first_number_before_the_kernel : answer (holding (dir ∷ []) no_free) 0 free_process refusing (Socketpair) ≡ Fails EMFILE Full
unfolding ℕ_discrete base created removed filled first_handled handled looks looks_twice lookup_fault path_fault path_components last_component
    by_nodes node_at child_of parent_of unless held at_object at_number any_below lowest_from answer
socketpair_asks_the_first_number_before_the_kernel = refl

-- sixteen processes, and the kernel refuses
fork_asks_the_room_before_the_kernel : answer (crowded (holding (dir ∷ []) (all 0 ∷ []))) 0 free_process refusing (Fork) ≡ Fails EAGAIN Full
unfolding ℕ_discrete base created removed filled first_handled handled looks looks_twice lookup_fault path_fault path_components last_component
    by_nodes node_at child_of parent_of unless held at_object at_number any_below lowest_from answer
fork_asks_the_room_before_the_kernel = refl
