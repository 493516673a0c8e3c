-- Names are read as what they name, and none is another word of a line.
use Rattle.std.proofs.Common.{◌≡◌, ℕ, Bool, true, false, List, [], ◌∷◌, refl}
use Rattle.std.specs.Prelude.{◌&&◌, codes, nat_lt, Some}
use Rattle.std.specs.List.{list_all}
use Rattle.std.specs.Str.{bytes_eq}
use Rattle.rights.specs.Calls.{Call, call_name}
use Rattle.rights.specs.Calls as calls
use Rattle.rights.specs.Errors.{Errno, errno_name}
use Rattle.rights.specs.Errors as errors
use Rattle.records.specs.Calls.{OperandKind, Reason, A_choice, operand_kinds}
use Rattle.records.specs.Calls as reasons
use Rattle.records.specs.Named.{call_of_word, error_of_word, reason_name, reason_of_word}

-- a byte above the space
abbrev pub is_dark : ℕ → Bool
is_dark byte = nat_lt 32 byte

-- the kind of a choice stands last, if it is there
abbrev pub is_choice : OperandKind → Bool
is_choice A_choice = true
is_choice _ = false

abbrev pub is_last_choice : OperandKind → List OperandKind → Bool
is_last_choice A_choice [] = true
is_last_choice A_choice (kind ∷ kinds) = false
is_last_choice _ kinds = true

abbrev pub has_last_choice : List OperandKind → Bool
has_last_choice [] = true
has_last_choice (kind ∷ kinds) = is_last_choice kind kinds && has_last_choice kinds

pub call-back : (c : Call) → call_of_word (call_name c) ≡ Some c
unfolding call_of_word
call-back calls.Open = refl
call-back calls.Openat = refl
call-back calls.Read = refl
call-back calls.Write = refl
call-back calls.Sendfd = refl
call-back calls.Recvfd = refl
call-back calls.Lseek = refl
call-back calls.Ftruncate = refl
call-back calls.Fsync = refl
call-back calls.Fstat = refl
call-back calls.Fcntl_getfl = refl
call-back calls.Fcntl_setfl = refl
call-back calls.Fstatat = refl
call-back calls.Stat = refl
call-back calls.Mkdirat = refl
call-back calls.Mkdir = refl
call-back calls.Unlinkat = refl
call-back calls.Unlink = refl
call-back calls.Renameat = refl
call-back calls.Dup = refl
call-back calls.Close = refl
call-back calls.Cap_rights_limit = refl
call-back calls.Cap_fcntls_limit = refl
call-back calls.Cap_enter = refl
call-back calls.Cap_getmode = refl
call-back calls.Socketpair = refl
call-back calls.Fork = refl
call-back calls.Use = refl

pub call-dark : (c : Call) → list_all is_dark (call_name c) ≡ true
call-dark calls.Open = refl
call-dark calls.Openat = refl
call-dark calls.Read = refl
call-dark calls.Write = refl
call-dark calls.Sendfd = refl
call-dark calls.Recvfd = refl
call-dark calls.Lseek = refl
call-dark calls.Ftruncate = refl
call-dark calls.Fsync = refl
call-dark calls.Fstat = refl
call-dark calls.Fcntl_getfl = refl
call-dark calls.Fcntl_setfl = refl
call-dark calls.Fstatat = refl
call-dark calls.Stat = refl
call-dark calls.Mkdirat = refl
call-dark calls.Mkdir = refl
call-dark calls.Unlinkat = refl
call-dark calls.Unlink = refl
call-dark calls.Renameat = refl
call-dark calls.Dup = refl
call-dark calls.Close = refl
call-dark calls.Cap_rights_limit = refl
call-dark calls.Cap_fcntls_limit = refl
call-dark calls.Cap_enter = refl
call-dark calls.Cap_getmode = refl
call-dark calls.Socketpair = refl
call-dark calls.Fork = refl
call-dark calls.Use = refl

-- no call is one of the other words that stand in its place
pub call-other : (c : Call) → (bytes_eq (call_name c) (codes "-") ≡ false) × (bytes_eq (call_name c) (codes "exit") ≡ false)
call-other calls.Open = (refl, refl)
call-other calls.Openat = (refl, refl)
call-other calls.Read = (refl, refl)
call-other calls.Write = (refl, refl)
call-other calls.Sendfd = (refl, refl)
call-other calls.Recvfd = (refl, refl)
call-other calls.Lseek = (refl, refl)
call-other calls.Ftruncate = (refl, refl)
call-other calls.Fsync = (refl, refl)
call-other calls.Fstat = (refl, refl)
call-other calls.Fcntl_getfl = (refl, refl)
call-other calls.Fcntl_setfl = (refl, refl)
call-other calls.Fstatat = (refl, refl)
call-other calls.Stat = (refl, refl)
call-other calls.Mkdirat = (refl, refl)
call-other calls.Mkdir = (refl, refl)
call-other calls.Unlinkat = (refl, refl)
call-other calls.Unlink = (refl, refl)
call-other calls.Renameat = (refl, refl)
call-other calls.Dup = (refl, refl)
call-other calls.Close = (refl, refl)
call-other calls.Cap_rights_limit = (refl, refl)
call-other calls.Cap_fcntls_limit = (refl, refl)
call-other calls.Cap_enter = (refl, refl)
call-other calls.Cap_getmode = (refl, refl)
call-other calls.Socketpair = (refl, refl)
call-other calls.Fork = (refl, refl)
call-other calls.Use = (refl, refl)

pub call-choice : (c : Call) → has_last_choice (operand_kinds c) ≡ true
call-choice calls.Open = refl
call-choice calls.Openat = refl
call-choice calls.Read = refl
call-choice calls.Write = refl
call-choice calls.Sendfd = refl
call-choice calls.Recvfd = refl
call-choice calls.Lseek = refl
call-choice calls.Ftruncate = refl
call-choice calls.Fsync = refl
call-choice calls.Fstat = refl
call-choice calls.Fcntl_getfl = refl
call-choice calls.Fcntl_setfl = refl
call-choice calls.Fstatat = refl
call-choice calls.Stat = refl
call-choice calls.Mkdirat = refl
call-choice calls.Mkdir = refl
call-choice calls.Unlinkat = refl
call-choice calls.Unlink = refl
call-choice calls.Renameat = refl
call-choice calls.Dup = refl
call-choice calls.Close = refl
call-choice calls.Cap_rights_limit = refl
call-choice calls.Cap_fcntls_limit = refl
call-choice calls.Cap_enter = refl
call-choice calls.Cap_getmode = refl
call-choice calls.Socketpair = refl
call-choice calls.Fork = refl
call-choice calls.Use = refl

pub error-back : (e : Errno) → error_of_word (errno_name e) ≡ Some e
unfolding error_of_word
error-back errors.EPERM = refl
error-back errors.ENOENT = refl
error-back errors.EBADF = refl
error-back errors.EEXIST = refl
error-back errors.ENOTDIR = refl
error-back errors.EISDIR = refl
error-back errors.EINVAL = refl
error-back errors.ENFILE = refl
error-back errors.EMFILE = refl
error-back errors.EFBIG = refl
error-back errors.ENOSPC = refl
error-back errors.EPIPE = refl
error-back errors.EAGAIN = refl
error-back errors.ENOTSOCK = refl
error-back errors.ELOOP = refl
error-back errors.ENAMETOOLONG = refl
error-back errors.ENOTEMPTY = refl
error-back errors.ENOTCAPABLE = refl
error-back errors.ECAPMODE = refl

pub error-dark : (e : Errno) → list_all is_dark (errno_name e) ≡ true
error-dark errors.EPERM = refl
error-dark errors.ENOENT = refl
error-dark errors.EBADF = refl
error-dark errors.EEXIST = refl
error-dark errors.ENOTDIR = refl
error-dark errors.EISDIR = refl
error-dark errors.EINVAL = refl
error-dark errors.ENFILE = refl
error-dark errors.EMFILE = refl
error-dark errors.EFBIG = refl
error-dark errors.ENOSPC = refl
error-dark errors.EPIPE = refl
error-dark errors.EAGAIN = refl
error-dark errors.ENOTSOCK = refl
error-dark errors.ELOOP = refl
error-dark errors.ENAMETOOLONG = refl
error-dark errors.ENOTEMPTY = refl
error-dark errors.ENOTCAPABLE = refl
error-dark errors.ECAPMODE = refl

pub reason-back : (r : Reason) → reason_of_word (reason_name r) ≡ Some r
unfolding reason_of_word
reason-back reasons.Loader = refl
reason-back reasons.Quiet = refl
reason-back reasons.Global = refl
reason-back reasons.Right = refl
reason-back reasons.Unknown = refl
reason-back reasons.Name = refl

pub reason-dark : (r : Reason) → list_all is_dark (reason_name r) ≡ true
reason-dark reasons.Loader = refl
reason-dark reasons.Quiet = refl
reason-dark reasons.Global = refl
reason-dark reasons.Right = refl
reason-dark reasons.Unknown = refl
reason-dark reasons.Name = refl
