-- What a call that fails answers: the error's number, and why it came.
use Rattle.std.specs.Prelude.{ℕ, List, codes}

-- The errors. (errno(2); the two of Capsicum are 93 and 94 there too, the other numbers are own
-- where systems differ)
pub data Errno : Type 0 where
  EPERM : Errno
  ENOENT : Errno
  EBADF : Errno
  EEXIST : Errno
  ENOTDIR : Errno
  EISDIR : Errno
  EINVAL : Errno
  ENFILE : Errno
  EMFILE : Errno
  EFBIG : Errno
  ENOSPC : Errno
  EPIPE : Errno
  EAGAIN : Errno
  ENOTSOCK : Errno
  ELOOP : Errno
  ENAMETOOLONG : Errno
  ENOTEMPTY : Errno
  ENOTCAPABLE : Errno
  ECAPMODE : Errno

abbrev pub errno_number : Errno → ℕ
errno_number EPERM = 1
errno_number ENOENT = 2
errno_number EBADF = 9
errno_number EEXIST = 17
errno_number ENOTDIR = 20
errno_number EISDIR = 21
errno_number EINVAL = 22
errno_number ENFILE = 23
errno_number EMFILE = 24
errno_number EFBIG = 27
errno_number ENOSPC = 28
errno_number EPIPE = 32
errno_number EAGAIN = 35
errno_number ENOTSOCK = 38
errno_number ELOOP = 62
errno_number ENAMETOOLONG = 63
errno_number ENOTEMPTY = 66
errno_number ENOTCAPABLE = 93
errno_number ECAPMODE = 94

abbrev pub errno_name : Errno → List ℕ
errno_name EPERM = codes "EPERM"
errno_name ENOENT = codes "ENOENT"
errno_name EBADF = codes "EBADF"
errno_name EEXIST = codes "EEXIST"
errno_name ENOTDIR = codes "ENOTDIR"
errno_name EISDIR = codes "EISDIR"
errno_name EINVAL = codes "EINVAL"
errno_name ENFILE = codes "ENFILE"
errno_name EMFILE = codes "EMFILE"
errno_name EFBIG = codes "EFBIG"
errno_name ENOSPC = codes "ENOSPC"
errno_name EPIPE = codes "EPIPE"
errno_name EAGAIN = codes "EAGAIN"
errno_name ENOTSOCK = codes "ENOTSOCK"
errno_name ELOOP = codes "ELOOP"
errno_name ENAMETOOLONG = codes "ENAMETOOLONG"
errno_name ENOTEMPTY = codes "ENOTEMPTY"
errno_name ENOTCAPABLE = codes "ENOTCAPABLE"
errno_name ECAPMODE = codes "ECAPMODE"

-- Why, in the order in which a call asks. (own)
pub data Cause : Type 0 where
  CapMode : Cause  -- a global name space in capability mode
  BadDescriptor : Cause  -- the descriptor is not open
  MissingRight : Cause  -- a right or a command is not held
  Kind : Cause  -- the descriptor's object is of the wrong kind
  Escape : Cause  -- the path leads out of the descriptor's directory
  Path : Cause  -- the path leads to no fitting node
  Access : Cause  -- the file was not opened for this access
  Full : Cause  -- no number, node, byte or process is left
  Refused : Cause  -- the kernel refuses, as it may

abbrev pub cause_name : Cause → List ℕ
cause_name CapMode = codes "CapMode"
cause_name BadDescriptor = codes "BadDescriptor"
cause_name MissingRight = codes "MissingRight"
cause_name Kind = codes "Kind"
cause_name Escape = codes "Escape"
cause_name Path = codes "Path"
cause_name Access = codes "Access"
cause_name Full = codes "Full"
cause_name Refused = codes "Refused"
