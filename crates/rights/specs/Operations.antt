-- What a call does to a place of the tree, and what a policy's grant lists. (own)
use Rattle.std.specs.Prelude.{List, [], ◌∷◌}
use Rattle.rights.specs.Values.{RightSet}
use Rattle.rights.specs.Sets.{create_right, fstat_right, fstatat_right, ftruncate_right, further_right, mkdirat_right, read_right}
use Rattle.rights.specs.Sets.{renameat_source_right, renameat_target_right, unlinkat_right, write_right}

pub data Operation : Type 0 where
  Look : Operation
  Read : Operation
  Write : Operation
  Create : Operation
  Remove : Operation

-- What a right lets its holder do to a node or beneath it, in the policy's operations. The other rights let it do none of these
-- by the calls of the model. Behind the fourteen: CONNECTAT, FCHFLAGS, FCHMOD, FCHMODAT, FCHOWN, FCHOWNAT, FEXECVE, FPATHCONF,
-- FSTATFS, FUTIMES, FUTIMESAT, MMAP_R, MMAP_W, MMAP_X. (own; after rights(4))
abbrev pub operations_of_rights : List (RightSet × Operation)
operations_of_rights =
    (read_right, Read) ∷ (write_right, Write) ∷ (ftruncate_right, Write) ∷ (fstat_right, Look) ∷ (create_right, Create)
    ∷ (fstatat_right, Look) ∷ (mkdirat_right, Create) ∷ (unlinkat_right, Remove) ∷ (renameat_source_right, Remove)
    ∷ (renameat_target_right, Create)
    ∷ (further_right 3, Write) ∷ (further_right 6, Write) ∷ (further_right 7, Write) ∷ (further_right 8, Write)
    ∷ (further_right 9, Write) ∷ (further_right 10, Write) ∷ (further_right 11, Read) ∷ (further_right 13, Look)
    ∷ (further_right 14, Look) ∷ (further_right 15, Write) ∷ (further_right 16, Write) ∷ (further_right 24, Read)
    ∷ (further_right 25, Write) ∷ (further_right 26, Read) ∷ []
