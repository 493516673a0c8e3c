-- The numbers of errors.
use Rattle.std.proofs.Common.{◌≤◌, lit≤}
use Rattle.rights.specs.Errors.{Errno, errno_number, EPERM, ENOENT, EBADF, EEXIST, ENOTDIR, EISDIR, EINVAL, ENFILE, EMFILE, EFBIG, ENOSPC, EPIPE, EAGAIN, ENOTSOCK, ELOOP}
use Rattle.rights.specs.Errors.{ENAMETOOLONG, ENOTEMPTY, ENOTCAPABLE, ECAPMODE}

pub errno_number-le : (errno : Errno) → errno_number errno ≤ 94
errno_number-le EPERM = lit≤ tt
errno_number-le ENOENT = lit≤ tt
errno_number-le EBADF = lit≤ tt
errno_number-le EEXIST = lit≤ tt
errno_number-le ENOTDIR = lit≤ tt
errno_number-le EISDIR = lit≤ tt
errno_number-le EINVAL = lit≤ tt
errno_number-le ENFILE = lit≤ tt
errno_number-le EMFILE = lit≤ tt
errno_number-le EFBIG = lit≤ tt
errno_number-le ENOSPC = lit≤ tt
errno_number-le EPIPE = lit≤ tt
errno_number-le EAGAIN = lit≤ tt
errno_number-le ENOTSOCK = lit≤ tt
errno_number-le ELOOP = lit≤ tt
errno_number-le ENAMETOOLONG = lit≤ tt
errno_number-le ENOTEMPTY = lit≤ tt
errno_number-le ENOTCAPABLE = lit≤ tt
errno_number-le ECAPMODE = lit≤ tt
