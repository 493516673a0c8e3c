-- A call that needs a further right: the order of its causes, what it does, and what it needs besides. Each row is one world and one
-- call, by computation.
use Rattle.std.proofs.Common.{[], ◌≡◌, ◌∷◌, ◌+◌, ◌++◌, true, false, codes, refl}
use Rattle.std.specs.Prelude.{map}
use Rattle.std.proofs.Math.Decide.{ℕ_discrete}
use Rattle.rights.specs.Operations.{Look, Read, Write}
use Rattle.rights.specs.Sets.{all_rights, further_right, lookup_right, read_right, seek_right}
use Rattle.rights.specs.Errors.{EBADF, ENOTDIR, EAGAIN, ENOTCAPABLE, ECAPMODE, BadDescriptor, CapMode, MissingRight, Refused}
use Rattle.rights.specs.Errors as errors
use Rattle.file_tree.specs.Refusals.{created}
use Rattle.instruction_set.specs.Languages.{is_spoken}
use Rattle.instruction_set.specs.Programs.{Number, Cap_rights_limit, Use, Invoke}
use Rattle.fd_table.specs.Descriptions.{descriptor_of}
use Rattle.kernel.specs.Answers.{Fails, Gives, Set_entry, same, does, unless, held, at_object}
use Rattle.kernel.specs.Calls.{answer}
use Rattle.kernel.proofs.Samples.{base}
use Rattle.kernel.proofs.CauseWorlds.{holding, all, with_rights, dir, file, end_a, quiet, refusing, free_process, in_mode}

-- CONNECT in the mode, of a number that isn't open
use_asks_the_mode_first : answer (holding (dir ∷ []) (all 0 ∷ [])) 0 in_mode quiet (Use (Number 5) (further_right 2)) ≡ Fails ECAPMODE CapMode
unfolding ℕ_discrete base created unless held at_object answer
use_asks_the_mode_first = refl

-- FCHMODAT of a file without LOOKUP, and of one without FCHMODAT
use_asks_what_stands_beside_before_the_kind : answer (holding (file ∷ []) (with_rights 0 (further_right 8) ∷ [])) 0 free_process quiet (Use (Number 0) (further_right 8))
    ≡ Fails ENOTCAPABLE MissingRight
unfolding ℕ_discrete base created unless held at_object answer
use_asks_what_stands_beside_before_the_kind = refl

use_asks_its_right_before_the_kind : answer (holding (file ∷ []) (with_rights 0 lookup_right ∷ [])) 0 free_process quiet (Use (Number 0) (further_right 8))
    ≡ Fails ENOTCAPABLE MissingRight
unfolding ℕ_discrete base created unless held at_object answer
use_asks_its_right_before_the_kind = refl

-- FCHMODAT of a file, and of an end, where the kernel refuses
use_asks_the_kind_before_the_kernel : answer (holding (file ∷ []) (all 0 ∷ [])) 0 free_process refusing (Use (Number 0) (further_right 8)) ≡ Fails ENOTDIR errors.Kind
unfolding ℕ_discrete base created unless held at_object answer
use_asks_the_kind_before_the_kernel = refl

use_asks_for_no_end_before_the_kernel : answer (holding (end_a ∷ []) (all 0 ∷ [])) 0 free_process refusing (Use (Number 0) (further_right 8)) ≡ Fails ENOTDIR errors.Kind
unfolding ℕ_discrete base created unless held at_object answer
use_asks_for_no_end_before_the_kernel = refl

-- EVENT, where the kernel refuses
use_may_be_refused : answer (holding (file ∷ []) (all 0 ∷ [])) 0 free_process refusing (Use (Number 0) (further_right 4)) ≡ Fails EAGAIN Refused
unfolding ℕ_discrete base created unless held at_object answer
use_may_be_refused = refl

-- a number that isn't open
use_of_no_descriptor : answer (holding (file ∷ []) (all 0 ∷ [])) 0 free_process quiet (Use (Number 5) (further_right 4)) ≡ Fails EBADF BadDescriptor
unfolding ℕ_discrete base created unless held at_object answer
use_of_no_descriptor = refl

-- MMAP_R needs READ and SEEK beside itself, and EVENT nothing
use_of_mmap_without_seek : answer (holding (file ∷ []) (with_rights 0 (read_right + further_right 24) ∷ [])) 0 free_process quiet (Use (Number 0) (further_right 24))
    ≡ Fails ENOTCAPABLE MissingRight
unfolding ℕ_discrete base created unless held at_object answer
use_of_mmap_without_seek = refl

use_of_mmap_reads : answer (holding (file ∷ []) (with_rights 0 (read_right + seek_right + further_right 24) ∷ [])) 0 free_process quiet (Use (Number 0) (further_right 24))
    ≡ Gives 0 same (does Read (codes "work" ∷ codes "in" ∷ []))
unfolding ℕ_discrete base created unless held at_object answer
use_of_mmap_reads = refl

use_of_event_alone : answer (holding (file ∷ []) (with_rights 0 (further_right 4) ∷ [])) 0 in_mode quiet (Use (Number 0) (further_right 4)) ≡ Gives 0 same []
unfolding ℕ_discrete base created unless held at_object answer
use_of_event_alone = refl

-- FCHMOD writes, FSTATFS looks, and FCHMODAT writes at the directory's own place
use_of_fchmod_writes : answer (holding (file ∷ []) (all 0 ∷ [])) 0 in_mode quiet (Use (Number 0) (further_right 7)) ≡ Gives 0 same (does Write (codes "work" ∷ codes "in" ∷ []))
unfolding ℕ_discrete base created unless held at_object answer
use_of_fchmod_writes = refl

use_of_fstatfs_looks : answer (holding (dir ∷ []) (all 0 ∷ [])) 0 in_mode quiet (Use (Number 0) (further_right 14)) ≡ Gives 0 same (does Look (codes "work" ∷ []))
unfolding ℕ_discrete base created unless held at_object answer
use_of_fstatfs_looks = refl

use_of_fchmodat_writes : answer (holding (dir ∷ []) (all 0 ∷ [])) 0 in_mode quiet (Use (Number 0) (further_right 8)) ≡ Gives 0 same (does Write (codes "work" ∷ []))
unfolding ℕ_discrete base created unless held at_object answer
use_of_fchmodat_writes = refl

-- an end has no place
use_of_an_end : answer (holding (end_a ∷ []) (all 0 ∷ [])) 0 in_mode quiet (Use (Number 0) (further_right 7)) ≡ Gives 0 same []
unfolding ℕ_discrete base created unless held at_object answer
use_of_an_end = refl

-- CONNECT outside the mode
use_of_connect_outside : answer (holding (file ∷ []) (all 0 ∷ [])) 0 free_process quiet (Use (Number 0) (further_right 2)) ≡ Gives 0 same []
unfolding ℕ_discrete base created unless held at_object answer
use_of_connect_outside = refl

-- a limit leaves what it names, of both kinds; one that names no further right leaves none
limit_of_both_kinds : answer (holding (file ∷ []) (all 0 ∷ [])) 0 free_process quiet (Cap_rights_limit (Number 0) (read_right + further_right 4))
    ≡ Gives 0 (record same { table = Set_entry 0 (record (descriptor_of 0 all_rights 3) { rights = read_right + further_right 4 }) }) []
unfolding ℕ_discrete base created unless held at_object answer
limit_of_both_kinds = refl

limit_to_more : answer (holding (file ∷ []) (with_rights 0 read_right ∷ [])) 0 free_process quiet (Cap_rights_limit (Number 0) (read_right + further_right 4))
    ≡ Fails ENOTCAPABLE MissingRight
unfolding ℕ_discrete base created unless held at_object answer
limit_to_more = refl

-- A task that asks for no further rights has no limit that leaves one.
limit_to_a_further_right_is_of_the_wide_language :
    map (λ wide. is_spoken wide (Invoke (Cap_rights_limit (Number 0) (read_right + further_right 4)) 1)) (true ∷ false ∷ [])
    ++ map (λ wide. is_spoken wide (Invoke (Cap_rights_limit (Number 0) read_right) 1)) (true ∷ false ∷ [])
    ≡ true ∷ false ∷ true ∷ true ∷ []
limit_to_a_further_right_is_of_the_wide_language = refl
