-- What is named by words, and the first of such things that a word names. (own)
use Rattle.std.specs.Prelude.{ℕ, List, [], ◌∷◌, codes, Option, Some, None, if◌then◌else◌}
use Rattle.std.specs.Str.{bytes_eq}
use Rattle.rights.specs.Calls.{Call, Open, Openat, Read, Write, Sendfd, Recvfd, Lseek, Ftruncate, Fsync, Fstat, Fcntl_getfl, Fcntl_setfl, Fstatat, Stat, Mkdirat, Mkdir}
use Rattle.rights.specs.Calls.{Unlinkat, Unlink, Renameat, Dup, Close, Cap_rights_limit, Cap_fcntls_limit, Cap_enter, Cap_getmode, Socketpair, Fork, Use, call_name}
use Rattle.rights.specs.Errors.{Errno, EPERM, ENOENT, EBADF, EEXIST, ENOTDIR, EISDIR, EINVAL, ENFILE, EMFILE}
use Rattle.rights.specs.Errors.{EFBIG, ENOSPC, EPIPE, EAGAIN, ENOTSOCK, ELOOP, ENAMETOOLONG, ENOTEMPTY, ENOTCAPABLE, ECAPMODE}
use Rattle.rights.specs.Errors.{errno_name}
use Rattle.records.specs.Calls.{Reason, Loader, Quiet, Global, Right, Unknown, Name}

abbrev pub named_by : {A : Type 0} → (A → List ℕ) → List A → List ℕ → Option A
named_by name [] word = None
named_by name (a ∷ others) word = if bytes_eq word (name a) then Some a else named_by name others word

abbrev pub all_calls : List Call
all_calls =
    Open ∷ Openat ∷ Read ∷ Write ∷ Sendfd ∷ Recvfd ∷ Lseek ∷ Ftruncate ∷ Fsync ∷ Fstat ∷ Fcntl_getfl ∷ Fcntl_setfl ∷ Fstatat ∷ Stat
    ∷ Mkdirat ∷ Mkdir ∷ Unlinkat ∷ Unlink ∷ Renameat ∷ Dup ∷ Close ∷ Cap_rights_limit ∷ Cap_fcntls_limit ∷ Cap_enter ∷ Cap_getmode
    ∷ Socketpair ∷ Fork ∷ Use ∷ []

abbrev pub all_errors : List Errno
all_errors =
    EPERM ∷ ENOENT ∷ EBADF ∷ EEXIST ∷ ENOTDIR ∷ EISDIR ∷ EINVAL ∷ ENFILE ∷ EMFILE ∷ EFBIG ∷ ENOSPC ∷ EPIPE ∷ EAGAIN ∷ ENOTSOCK ∷ ELOOP
    ∷ ENAMETOOLONG ∷ ENOTEMPTY ∷ ENOTCAPABLE ∷ ECAPMODE ∷ []

abbrev pub reason_name : Reason → List ℕ
reason_name Loader = codes "loader"
reason_name Quiet = codes "quiet"
reason_name Global = codes "global"
reason_name Right = codes "right"
reason_name Unknown = codes "unknown"
reason_name Name = codes "name"

abbrev pub all_reasons : List Reason
all_reasons = Loader ∷ Quiet ∷ Global ∷ Right ∷ Unknown ∷ Name ∷ []

unfoldable pub call_of_word : List ℕ → Option Call
call_of_word word = named_by call_name all_calls word

unfoldable pub error_of_word : List ℕ → Option Errno
error_of_word word = named_by errno_name all_errors word

unfoldable pub reason_of_word : List ℕ → Option Reason
reason_of_word word = named_by reason_name all_reasons word
