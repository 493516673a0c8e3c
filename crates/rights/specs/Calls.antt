-- The system calls of the profile, by name.
use Rattle.std.specs.Prelude.{ℕ, List, codes}

pub data Call : Type 0 where
  Open : Call
  Openat : Call
  Read : Call
  Write : Call
  Sendfd : Call
  Recvfd : Call
  Lseek : Call
  Ftruncate : Call
  Fsync : Call
  Fstat : Call
  Fcntl_getfl : Call
  Fcntl_setfl : Call
  Fstatat : Call
  Stat : Call
  Mkdirat : Call
  Mkdir : Call
  Unlinkat : Call
  Unlink : Call
  Renameat : Call
  Dup : Call
  Close : Call
  Cap_rights_limit : Call
  Cap_fcntls_limit : Call
  Cap_enter : Call
  Cap_getmode : Call
  Socketpair : Call
  Fork : Call
  Use : Call

-- the call's word in a program
abbrev pub call_name : Call → List ℕ
call_name Open = codes "open"
call_name Openat = codes "openat"
call_name Read = codes "read"
call_name Write = codes "write"
call_name Sendfd = codes "sendfd"
call_name Recvfd = codes "recvfd"
call_name Lseek = codes "lseek"
call_name Ftruncate = codes "ftruncate"
call_name Fsync = codes "fsync"
call_name Fstat = codes "fstat"
call_name Fcntl_getfl = codes "fcntl_getfl"
call_name Fcntl_setfl = codes "fcntl_setfl"
call_name Fstatat = codes "fstatat"
call_name Stat = codes "stat"
call_name Mkdirat = codes "mkdirat"
call_name Mkdir = codes "mkdir"
call_name Unlinkat = codes "unlinkat"
call_name Unlink = codes "unlink"
call_name Renameat = codes "renameat"
call_name Dup = codes "dup"
call_name Close = codes "close"
call_name Cap_rights_limit = codes "cap_rights_limit"
call_name Cap_fcntls_limit = codes "cap_fcntls_limit"
call_name Cap_enter = codes "cap_enter"
call_name Cap_getmode = codes "cap_getmode"
call_name Socketpair = codes "socketpair"
call_name Fork = codes "fork"
call_name Use = codes "use"
