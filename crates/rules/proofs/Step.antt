-- Each instruction of a process that stands at a point owes what it should.
use Rattle.std.proofs.Common.{ℕ}
use Rattle.process.specs.State.{ProcessState}
use Rattle.certificate.specs.Bounds.{Certificate}
use Rattle.instruction_set.specs.Programs.{Syscall, Open, Openat, Read, Write, Sendfd, Recvfd, Lseek, Ftruncate, Fsync, Fstat, Fcntl_getfl, Fcntl_setfl, Fstatat, Stat, Mkdirat, Mkdir}
use Rattle.instruction_set.specs.Programs.{Unlinkat, Unlink, Renameat, Dup, Close, Cap_rights_limit, Cap_fcntls_limit, Cap_enter, Cap_getmode, Socketpair, Fork, Use as Call_use, Instruction, Set, Mov}
use Rattle.instruction_set.specs.Programs.{Add, In, Jmp, Jeq, Jlt, Halt, Invoke}
use Rattle.kernel.specs.World.{World, Choice}
use Rattle.kernel.specs.Answers.{Event, IsEvent}
use Rattle.kernel.specs.Calls.{answer}
use Rattle.kernel.specs.Steps.{executed}
use Rattle.task.specs.Plans.{Plan}
use Rattle.rules.specs.Seen.{table_seen}
use Rattle.rules.proofs.outcomes.Plain.{plain_moves}
use Rattle.rules.proofs.calls.Owing.{Standing, Owed, owed_halt}
use Rattle.rules.proofs.calls.OwedCalls.{OwedBy, owed_of, plain_owed}
use Rattle.rules.proofs.calls.UseCalls.{owed_use}
use Rattle.rules.proofs.calls.QuietCalls.{owed_cap_getmode, owed_cap_enter, owed_getfl, owed_fsync}
use Rattle.rules.proofs.calls.FileCalls.{owed_read, owed_write, owed_lseek, owed_ftruncate, owed_setfl, owed_fstat}
use Rattle.rules.proofs.calls.LookCalls.{owed_fstatat, owed_stat}
use Rattle.rules.proofs.calls.NameCalls.{owed_mkdirat, owed_mkdir, owed_unlinkat, owed_unlink}
use Rattle.rules.proofs.calls.MoveCalls.{owed_renameat}
use Rattle.rules.proofs.calls.TableCalls.{owed_close, owed_rights, owed_commands, owed_dup}
use Rattle.rules.proofs.calls.OpenCalls.{owed_open, owed_openat}
use Rattle.rules.proofs.calls.PassingCalls.{owed_recvfd, owed_sendfd, owed_socketpair, owed_fork}

module _ (plan : Plan) (certificate : Certificate) (w : World) (e : Event) (s : ProcessState) (choice : Choice) where
  abbrev pub OwesCall : Syscall → Type 0
  OwesCall call = (otherwise : ℕ) (known : Standing plan certificate w e.process s choice (Invoke call otherwise))
      → OwedBy plan certificate w e.process s choice call otherwise known (answer w e.process s e call)

  pub owed_answer : (call : Syscall) → OwesCall call
  owed_answer (Open path f) = owed_open plan certificate w e s choice path f
  owed_answer (Openat x path f) = owed_openat plan certificate w e s choice x path f
  owed_answer (Read x) = owed_read plan certificate w e s choice x
  owed_answer (Write x v) = owed_write plan certificate w e s choice x v
  owed_answer (Sendfd x y v) = owed_sendfd plan certificate w e s choice x y v
  owed_answer (Recvfd x) = owed_recvfd plan certificate w e s choice x
  owed_answer (Lseek x v) = owed_lseek plan certificate w e s choice x v
  owed_answer (Ftruncate x v) = owed_ftruncate plan certificate w e s choice x v
  owed_answer (Fsync x) = owed_fsync plan certificate w e s choice x
  owed_answer (Fstat x) = owed_fstat plan certificate w e s choice x
  owed_answer (Fcntl_getfl x) = owed_getfl plan certificate w e s choice x
  owed_answer (Fcntl_setfl x v) = owed_setfl plan certificate w e s choice x v
  owed_answer (Fstatat x path) = owed_fstatat plan certificate w e s choice x path
  owed_answer (Stat path) = owed_stat plan certificate w e s choice path
  owed_answer (Mkdirat x path) = owed_mkdirat plan certificate w e s choice x path
  owed_answer (Mkdir path) = owed_mkdir plan certificate w e s choice path
  owed_answer (Unlinkat x path directory) = owed_unlinkat plan certificate w e s choice x path directory
  owed_answer (Unlink path directory) = owed_unlink plan certificate w e s choice path directory
  owed_answer (Renameat x from y to) = owed_renameat plan certificate w e s choice x from y to
  owed_answer (Dup x) = owed_dup plan certificate w e s choice x
  owed_answer (Close x) = owed_close plan certificate w e s choice x
  owed_answer (Cap_rights_limit x rights) = owed_rights plan certificate w e s choice x rights
  owed_answer (Cap_fcntls_limit x commands) = owed_commands plan certificate w e s choice x commands
  owed_answer Cap_enter = owed_cap_enter plan certificate w e s choice
  owed_answer Cap_getmode = owed_cap_getmode plan certificate w e s choice
  owed_answer Socketpair = owed_socketpair plan certificate w e s choice
  owed_answer (Call_use x right) = λ otherwise known. owed_use plan certificate w e s choice x right otherwise known
  owed_answer Fork = owed_fork plan certificate w e s choice

  pub owed_executed : (i : Instruction) → IsEvent e → (known : Standing plan certificate w e.process s choice i)
      → Owed plan certificate w e.process s choice known.inv.classes (executed w e choice s i)
  unfolding executed
  owed_executed (Set r v) byte known =
      plain_owed plan certificate w e s choice (Set r v) byte known
      (plain_moves plan certificate w e choice s (table_seen plan w e.process) (Set r v) byte known.stands)
  owed_executed (Mov r source) byte known =
      plain_owed plan certificate w e s choice (Mov r source) byte known
      (plain_moves plan certificate w e choice s (table_seen plan w e.process) (Mov r source) byte known.stands)
  owed_executed (Add r addend) byte known =
      plain_owed plan certificate w e s choice (Add r addend) byte known
      (plain_moves plan certificate w e choice s (table_seen plan w e.process) (Add r addend) byte known.stands)
  owed_executed (In r) byte known =
      plain_owed plan certificate w e s choice (In r) byte known
      (plain_moves plan certificate w e choice s (table_seen plan w e.process) (In r) byte known.stands)
  owed_executed (Jmp target) byte known =
      plain_owed plan certificate w e s choice (Jmp target) byte known
      (plain_moves plan certificate w e choice s (table_seen plan w e.process) (Jmp target) byte known.stands)
  owed_executed (Jeq r v target) byte known =
      plain_owed plan certificate w e s choice (Jeq r v target) byte known
      (plain_moves plan certificate w e choice s (table_seen plan w e.process) (Jeq r v target) byte known.stands)
  owed_executed (Jlt r v target) byte known =
      plain_owed plan certificate w e s choice (Jlt r v target) byte known
      (plain_moves plan certificate w e choice s (table_seen plan w e.process) (Jlt r v target) byte known.stands)
  owed_executed Halt byte known = owed_halt plan certificate w e.process s choice Halt known
  owed_executed (Invoke call otherwise) byte known =
      owed_of plan certificate w e.process s choice call otherwise known (answer w e.process s e call) (owed_answer call otherwise known)
