-- Sets of rights and of fcntl commands. (rights(4), cap_fcntls_limit(2); that each right is one
-- member, and which rights there are, is own)
use Rattle.std.specs.Prelude.{◌≡◌, ◌==◌, ◌+◌, ◌*◌, ◌/◌, ◌%◌, ℕ, ◌^◌, Bool, List, [], ◌∷◌, codes, bit_and}
use Rattle.std.specs.Int.{bit_at}

-- A set is the number that has bit k where member k is in the set.
abbrev pub IsIn : ℕ → ℕ → Type 0
IsIn set k = bit_at set k ≡ 1

-- each member of the small set is in the large one, as a test
abbrev pub is_within : ℕ → ℕ → Bool
is_within small large = bit_and large small == small

-- each member of the small set is in the large one
abbrev pub IsWithin : ℕ → ℕ → Type 0
IsWithin small large = (k : ℕ) → IsIn small k → IsIn large k

-- The fourteen rights of every task, by bit. CAP_RECV is another name of CAP_READ, and CAP_SEND of CAP_WRITE.
abbrev pub read_right : ℕ
read_right = 2 ^ 0

abbrev pub write_right : ℕ
write_right = 2 ^ 1

abbrev pub seek_right : ℕ
seek_right = 2 ^ 2

abbrev pub ftruncate_right : ℕ
ftruncate_right = 2 ^ 3

abbrev pub fsync_right : ℕ
fsync_right = 2 ^ 4

abbrev pub fstat_right : ℕ
fstat_right = 2 ^ 5

abbrev pub fcntl_right : ℕ
fcntl_right = 2 ^ 6

abbrev pub lookup_right : ℕ
lookup_right = 2 ^ 7

abbrev pub create_right : ℕ
create_right = 2 ^ 8

abbrev pub fstatat_right : ℕ
fstatat_right = 2 ^ 9

abbrev pub mkdirat_right : ℕ
mkdirat_right = 2 ^ 10

abbrev pub unlinkat_right : ℕ
unlinkat_right = 2 ^ 11

abbrev pub renameat_source_right : ℕ
renameat_source_right = 2 ^ 12

abbrev pub renameat_target_right : ℕ
renameat_target_right = 2 ^ 13

-- all fourteen
abbrev pub plain_rights : ℕ
plain_rights = 0x3fff

-- These, and the thirty-two further rights, which have the bits from 14 on.
abbrev pub all_rights : ℕ
all_rights = 0x3fffffffffff

abbrev pub further_rights : ℕ
further_rights = 0x3fffffffc000

-- A set of rights in two parts, by bit from 0: those of the fourteen, and the further ones.
abbrev pub plain_part : ℕ → ℕ
plain_part rights = rights % 2 ^ 14

abbrev pub further_part : ℕ → ℕ
further_part rights = rights / 2 ^ 14 % 2 ^ 32

abbrev pub both_parts : ℕ → ℕ → ℕ
both_parts plain further = plain + 2 ^ 14 * further

-- further right k alone
abbrev pub further_right : ℕ → ℕ
further_right k = 2 ^ (14 + k)

-- The names of the rights in the order of their bits, and then the two aliases.
abbrev pub right_names : List (List ℕ × ℕ)
right_names =
    (codes "READ", read_right) ∷ (codes "WRITE", write_right) ∷ (codes "SEEK", seek_right)
    ∷ (codes "FTRUNCATE", ftruncate_right) ∷ (codes "FSYNC", fsync_right) ∷ (codes "FSTAT", fstat_right)
    ∷ (codes "FCNTL", fcntl_right) ∷ (codes "LOOKUP", lookup_right) ∷ (codes "CREATE", create_right)
    ∷ (codes "FSTATAT", fstatat_right) ∷ (codes "MKDIRAT", mkdirat_right) ∷ (codes "UNLINKAT", unlinkat_right)
    ∷ (codes "RENAMEAT_SOURCE", renameat_source_right) ∷ (codes "RENAMEAT_TARGET", renameat_target_right)
    ∷ (codes "ACCEPT", further_right 0) ∷ (codes "BIND", further_right 1) ∷ (codes "CONNECT", further_right 2)
    ∷ (codes "CONNECTAT", further_right 3) ∷ (codes "EVENT", further_right 4) ∷ (codes "FCHDIR", further_right 5)
    ∷ (codes "FCHFLAGS", further_right 6) ∷ (codes "FCHMOD", further_right 7) ∷ (codes "FCHMODAT", further_right 8)
    ∷ (codes "FCHOWN", further_right 9) ∷ (codes "FCHOWNAT", further_right 10) ∷ (codes "FEXECVE", further_right 11)
    ∷ (codes "FLOCK", further_right 12) ∷ (codes "FPATHCONF", further_right 13) ∷ (codes "FSTATFS", further_right 14)
    ∷ (codes "FUTIMES", further_right 15) ∷ (codes "FUTIMESAT", further_right 16)
    ∷ (codes "GETPEERNAME", further_right 17) ∷ (codes "GETSOCKNAME", further_right 18)
    ∷ (codes "GETSOCKOPT", further_right 19) ∷ (codes "IOCTL", further_right 20)
    ∷ (codes "KQUEUE_CHANGE", further_right 21) ∷ (codes "KQUEUE_EVENT", further_right 22)
    ∷ (codes "LISTEN", further_right 23) ∷ (codes "MMAP_R", further_right 24) ∷ (codes "MMAP_W", further_right 25)
    ∷ (codes "MMAP_X", further_right 26) ∷ (codes "PDGETPID", further_right 27) ∷ (codes "PDKILL", further_right 28)
    ∷ (codes "SETSOCKOPT", further_right 29) ∷ (codes "SHUTDOWN", further_right 30)
    ∷ (codes "TTYHOOK", further_right 31)
    ∷ (codes "RECV", read_right) ∷ (codes "SEND", write_right) ∷ []

-- The fcntl commands: F_GETFL and F_SETFL.
abbrev pub getfl_command : ℕ
getfl_command = 2 ^ 0

abbrev pub setfl_command : ℕ
setfl_command = 2 ^ 1

-- both
abbrev pub all_commands : ℕ
all_commands = 3

abbrev pub command_names : List (List ℕ × ℕ)
command_names = (codes "GETFL", getfl_command) ∷ (codes "SETFL", setfl_command) ∷ []
