-- What the variants of the code's types stand for.
use Rattle.rights.specs.declared.calls.Call.{Call as CallCode}
use Rattle.rights.specs.declared.calls.Call.TheVariants as call
use Rattle.rights.specs.declared.errors.Errno.{Errno as ErrnoCode}
use Rattle.rights.specs.declared.errors.Errno.TheVariants as errno
use Rattle.rights.specs.declared.errors.Cause.{Cause as CauseCode}
use Rattle.rights.specs.declared.errors.Cause.TheVariants as cause
use Rattle.rights.specs.declared.operations.Op.{Op as OpCode}
use Rattle.rights.specs.declared.operations.Op.TheVariants as op
use Rattle.rights.specs.declared.need_table.Position.{Position as PositionCode}
use Rattle.rights.specs.declared.need_table.Position.TheVariants as position
use Rattle.rights.specs.declared.sides.Side.{Side as SideCode}
use Rattle.rights.specs.declared.sides.Side.TheVariants as side
use Rattle.rights.specs.Values.{SideNumber}
use Rattle.rights.specs.Calls as calls
use Rattle.rights.specs.Errors as errors
use Rattle.rights.specs.Operations as operations
use Rattle.rights.specs.Needs as needs

abbrev pub call_of : CallCode → calls.Call
call_of call.Open = calls.Open
call_of call.Openat = calls.Openat
call_of call.Read = calls.Read
call_of call.Write = calls.Write
call_of call.Sendfd = calls.Sendfd
call_of call.Recvfd = calls.Recvfd
call_of call.Lseek = calls.Lseek
call_of call.Ftruncate = calls.Ftruncate
call_of call.Fsync = calls.Fsync
call_of call.Fstat = calls.Fstat
call_of call.FcntlGetfl = calls.Fcntl_getfl
call_of call.FcntlSetfl = calls.Fcntl_setfl
call_of call.Fstatat = calls.Fstatat
call_of call.Stat = calls.Stat
call_of call.Mkdirat = calls.Mkdirat
call_of call.Mkdir = calls.Mkdir
call_of call.Unlinkat = calls.Unlinkat
call_of call.Unlink = calls.Unlink
call_of call.Renameat = calls.Renameat
call_of call.Dup = calls.Dup
call_of call.Close = calls.Close
call_of call.CapRightsLimit = calls.Cap_rights_limit
call_of call.CapFcntlsLimit = calls.Cap_fcntls_limit
call_of call.CapEnter = calls.Cap_enter
call_of call.CapGetmode = calls.Cap_getmode
call_of call.Socketpair = calls.Socketpair
call_of call.Fork = calls.Fork
call_of call.Use = calls.Use

abbrev pub errno_of : ErrnoCode → errors.Errno
errno_of errno.EPERM = errors.EPERM
errno_of errno.ENOENT = errors.ENOENT
errno_of errno.EBADF = errors.EBADF
errno_of errno.EEXIST = errors.EEXIST
errno_of errno.ENOTDIR = errors.ENOTDIR
errno_of errno.EISDIR = errors.EISDIR
errno_of errno.EINVAL = errors.EINVAL
errno_of errno.ENFILE = errors.ENFILE
errno_of errno.EMFILE = errors.EMFILE
errno_of errno.EFBIG = errors.EFBIG
errno_of errno.ENOSPC = errors.ENOSPC
errno_of errno.EPIPE = errors.EPIPE
errno_of errno.EAGAIN = errors.EAGAIN
errno_of errno.ENOTSOCK = errors.ENOTSOCK
errno_of errno.ELOOP = errors.ELOOP
errno_of errno.ENAMETOOLONG = errors.ENAMETOOLONG
errno_of errno.ENOTEMPTY = errors.ENOTEMPTY
errno_of errno.ENOTCAPABLE = errors.ENOTCAPABLE
errno_of errno.ECAPMODE = errors.ECAPMODE

abbrev pub cause_of : CauseCode → errors.Cause
cause_of cause.CapMode = errors.CapMode
cause_of cause.BadDescriptor = errors.BadDescriptor
cause_of cause.MissingRight = errors.MissingRight
cause_of cause.Kind = errors.Kind
cause_of cause.Escape = errors.Escape
cause_of cause.Path = errors.Path
cause_of cause.Access = errors.Access
cause_of cause.Full = errors.Full
cause_of cause.Refused = errors.Refused

abbrev pub operation_of : OpCode → operations.Operation
operation_of op.Look = operations.Look
operation_of op.Read = operations.Read
operation_of op.Write = operations.Write
operation_of op.Create = operations.Create
operation_of op.Remove = operations.Remove

abbrev pub position_of : PositionCode → needs.Position
position_of position.First = needs.First
position_of position.Second = needs.Second

-- side A is 0, and B is 1
abbrev pub side_seen : SideCode → SideNumber
side_seen side.A = 0
side_seen side.B = 1
