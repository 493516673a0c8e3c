-- What a call needs of the rights of the descriptors that it is given. (rights(4), in this
-- profile's fourteen; where the manual leaves a need open this table is own)
use Rattle.std.specs.Prelude.{ℕ, Bool, true, false, ◌&&◌, ◌||◌, List, [], ◌∷◌, bit_or}
use Rattle.std.specs.List.{fold}
use Rattle.std.proofs.Math.Bool.{not}
use Rattle.rights.specs.Values.{CommandSet, RightSet}
use Rattle.rights.specs.Calls.{Call}
use Rattle.rights.specs.Calls as calls
use Rattle.rights.specs.Opens.{OpenRequest}
use Rattle.rights.specs.Sets.{read_right, write_right, seek_right, ftruncate_right, fsync_right, fstat_right, fcntl_right, lookup_right, create_right, fstatat_right, mkdirat_right}
use Rattle.rights.specs.Sets.{unlinkat_right, renameat_source_right, renameat_target_right, getfl_command, setfl_command}

-- which of the call's descriptors is asked
pub data Position : Type 0 where
  First : Position
  Second : Position

-- the set of these rights
abbrev pub rights_of : List ℕ → RightSet
rights_of rights = fold bit_or 0 rights

-- this right where it is asked for, and else none
abbrev pub when : Bool → RightSet → RightSet
when true right = right
when false right = 0

-- Of the directory that openat starts at. A file that is written without append or trunc can be
-- written anywhere, which needs the right to seek too.
abbrev pub openat_needs : OpenRequest → RightSet
openat_needs request =
    rights_of
    (lookup_right ∷ when request.read read_right ∷ when request.write write_right
    ∷ when (request.write && not (request.append || request.trunc)) seek_right ∷ when request.create create_right
    ∷ when request.trunc ftruncate_right ∷ [])

-- of the call's only descriptor, or of the first of two; what `use` needs goes by its operand
abbrev pub first_needs : Call → OpenRequest → RightSet
first_needs calls.Open request = 0
first_needs calls.Openat request = openat_needs request
first_needs calls.Read request = read_right
first_needs calls.Write request = write_right
first_needs calls.Sendfd request = write_right
first_needs calls.Recvfd request = read_right
first_needs calls.Lseek request = seek_right
first_needs calls.Ftruncate request = ftruncate_right
first_needs calls.Fsync request = fsync_right
first_needs calls.Fstat request = fstat_right
first_needs calls.Fcntl_getfl request = fcntl_right
first_needs calls.Fcntl_setfl request = fcntl_right
first_needs calls.Fstatat request = rights_of (lookup_right ∷ fstatat_right ∷ [])
first_needs calls.Stat request = 0
first_needs calls.Mkdirat request = rights_of (lookup_right ∷ mkdirat_right ∷ [])
first_needs calls.Mkdir request = 0
first_needs calls.Unlinkat request = rights_of (lookup_right ∷ unlinkat_right ∷ [])
first_needs calls.Unlink request = 0
first_needs calls.Renameat request = rights_of (lookup_right ∷ renameat_source_right ∷ [])
first_needs calls.Dup request = 0
first_needs calls.Close request = 0
first_needs calls.Cap_rights_limit request = 0
first_needs calls.Cap_fcntls_limit request = 0
first_needs calls.Cap_enter request = 0
first_needs calls.Cap_getmode request = 0
first_needs calls.Socketpair request = 0
first_needs calls.Fork request = 0
first_needs calls.Use request = 0

-- Of the second of two. A node that renameat replaces goes away as by unlinkat, and this is asked
-- too (rights(4)). A descriptor that is sent needs nothing itself.
abbrev pub second_needs : Call → Bool → RightSet
second_needs calls.Open replaces = 0
second_needs calls.Openat replaces = 0
second_needs calls.Read replaces = 0
second_needs calls.Write replaces = 0
second_needs calls.Sendfd replaces = 0
second_needs calls.Recvfd replaces = 0
second_needs calls.Lseek replaces = 0
second_needs calls.Ftruncate replaces = 0
second_needs calls.Fsync replaces = 0
second_needs calls.Fstat replaces = 0
second_needs calls.Fcntl_getfl replaces = 0
second_needs calls.Fcntl_setfl replaces = 0
second_needs calls.Fstatat replaces = 0
second_needs calls.Stat replaces = 0
second_needs calls.Mkdirat replaces = 0
second_needs calls.Mkdir replaces = 0
second_needs calls.Unlinkat replaces = 0
second_needs calls.Unlink replaces = 0
second_needs calls.Renameat replaces =
    rights_of (lookup_right ∷ renameat_target_right ∷ when replaces unlinkat_right ∷ [])
second_needs calls.Dup replaces = 0
second_needs calls.Close replaces = 0
second_needs calls.Cap_rights_limit replaces = 0
second_needs calls.Cap_fcntls_limit replaces = 0
second_needs calls.Cap_enter replaces = 0
second_needs calls.Cap_getmode replaces = 0
second_needs calls.Socketpair replaces = 0
second_needs calls.Fork replaces = 0
second_needs calls.Use replaces = 0

-- the rights that a descriptor must have for the call
abbrev pub needs_of : Call → OpenRequest → Position → Bool → RightSet
needs_of call request First replaces = first_needs call request
needs_of call request Second replaces = second_needs call replaces

-- the fcntl command that it goes by (cap_fcntls_limit(2))
abbrev pub command_needed : Call → CommandSet
command_needed calls.Open = 0
command_needed calls.Openat = 0
command_needed calls.Read = 0
command_needed calls.Write = 0
command_needed calls.Sendfd = 0
command_needed calls.Recvfd = 0
command_needed calls.Lseek = 0
command_needed calls.Ftruncate = 0
command_needed calls.Fsync = 0
command_needed calls.Fstat = 0
command_needed calls.Fcntl_getfl = getfl_command
command_needed calls.Fcntl_setfl = setfl_command
command_needed calls.Fstatat = 0
command_needed calls.Stat = 0
command_needed calls.Mkdirat = 0
command_needed calls.Mkdir = 0
command_needed calls.Unlinkat = 0
command_needed calls.Unlink = 0
command_needed calls.Renameat = 0
command_needed calls.Dup = 0
command_needed calls.Close = 0
command_needed calls.Cap_rights_limit = 0
command_needed calls.Cap_fcntls_limit = 0
command_needed calls.Cap_enter = 0
command_needed calls.Cap_getmode = 0
command_needed calls.Socketpair = 0
command_needed calls.Fork = 0
command_needed calls.Use = 0
