-- The arguments of a call are for what its facts say.
use Rattle.std.proofs.Common.{◌≡◌, refl}
use Rattle.std.specs.Prelude.{map}
use Rattle.instruction_set.specs.Programs.{Syscall, called}
use Rattle.instruction_set.specs.Programs as programs
use Rattle.call_facts.specs.Arguments.{arguments, role_of}
use Rattle.call_facts.specs.Facts.{facts_of}

pub roles_agree : (call : Syscall) → map role_of (arguments call) ≡ (facts_of (called call)).roles
roles_agree (programs.Open path flags) = refl
roles_agree (programs.Openat x path flags) = refl
roles_agree (programs.Read x) = refl
roles_agree (programs.Write x v) = refl
roles_agree (programs.Sendfd x y v) = refl
roles_agree (programs.Recvfd x) = refl
roles_agree (programs.Lseek x v) = refl
roles_agree (programs.Ftruncate x v) = refl
roles_agree (programs.Fsync x) = refl
roles_agree (programs.Fstat x) = refl
roles_agree (programs.Fcntl_getfl x) = refl
roles_agree (programs.Fcntl_setfl x v) = refl
roles_agree (programs.Fstatat x path) = refl
roles_agree (programs.Stat path) = refl
roles_agree (programs.Mkdirat x path) = refl
roles_agree (programs.Mkdir path) = refl
roles_agree (programs.Unlinkat x path directory) = refl
roles_agree (programs.Unlink path directory) = refl
roles_agree (programs.Renameat x from y to) = refl
roles_agree (programs.Dup x) = refl
roles_agree (programs.Close x) = refl
roles_agree (programs.Cap_rights_limit x rights) = refl
roles_agree (programs.Cap_fcntls_limit x commands) = refl
roles_agree programs.Cap_enter = refl
roles_agree programs.Cap_getmode = refl
roles_agree programs.Socketpair = refl
roles_agree programs.Fork = refl
roles_agree (programs.Use x right) = refl
