-- What the values of the code stand for.
use Rattle.std.specs.Prelude.{ℕ, List, [], ◌∷◌, ◌++◌, Option, Some, None, map}
use Rattle.instruction_set.specs.declared.operands.Operand.{Operand as OperandCode}
use Rattle.instruction_set.specs.declared.operands.Operand.TheVariants as operand
use Rattle.instruction_set.specs.declared.instructions.Syscall.{Syscall as SyscallCode}
use Rattle.instruction_set.specs.declared.instructions.Syscall.TheVariants as call
use Rattle.instruction_set.specs.declared.instructions.Instruction.{Instruction as InstructionCode}
use Rattle.instruction_set.specs.declared.instructions.Instruction.TheVariants as instruction
use Rattle.instruction_set.specs.declared.successors.Successors.{Successors}
use Rattle.instruction_set.specs.Programs.{Operand, Syscall, Instruction}
use Rattle.instruction_set.specs.Programs as programs

abbrev pub operand_of : OperandCode → Operand
operand_of (operand.Register register) = programs.Register register
operand_of (operand.Number number) = programs.Number number

abbrev pub syscall_of : SyscallCode → Syscall
syscall_of (call.Open path flags) = programs.Open path flags
syscall_of (call.Openat descriptor path flags) = programs.Openat (operand_of descriptor) path flags
syscall_of (call.Read descriptor) = programs.Read (operand_of descriptor)
syscall_of (call.Write descriptor value) = programs.Write (operand_of descriptor) (operand_of value)
syscall_of (call.Sendfd descriptor sent value) = programs.Sendfd (operand_of descriptor) (operand_of sent) (operand_of value)
syscall_of (call.Recvfd descriptor) = programs.Recvfd (operand_of descriptor)
syscall_of (call.Lseek descriptor offset) = programs.Lseek (operand_of descriptor) (operand_of offset)
syscall_of (call.Ftruncate descriptor len) = programs.Ftruncate (operand_of descriptor) (operand_of len)
syscall_of (call.Fsync descriptor) = programs.Fsync (operand_of descriptor)
syscall_of (call.Fstat descriptor) = programs.Fstat (operand_of descriptor)
syscall_of (call.FcntlGetfl descriptor) = programs.Fcntl_getfl (operand_of descriptor)
syscall_of (call.FcntlSetfl descriptor flags) = programs.Fcntl_setfl (operand_of descriptor) (operand_of flags)
syscall_of (call.Fstatat descriptor path) = programs.Fstatat (operand_of descriptor) path
syscall_of (call.Stat path) = programs.Stat path
syscall_of (call.Mkdirat descriptor path) = programs.Mkdirat (operand_of descriptor) path
syscall_of (call.Mkdir path) = programs.Mkdir path
syscall_of (call.Unlinkat descriptor path directory) = programs.Unlinkat (operand_of descriptor) path directory
syscall_of (call.Unlink path directory) = programs.Unlink path directory
syscall_of (call.Renameat descriptor path target new_path) = programs.Renameat (operand_of descriptor) path (operand_of target) new_path
syscall_of (call.Dup descriptor) = programs.Dup (operand_of descriptor)
syscall_of (call.Close descriptor) = programs.Close (operand_of descriptor)
syscall_of (call.CapRightsLimit descriptor rights) = programs.Cap_rights_limit (operand_of descriptor) rights.0
syscall_of (call.CapFcntlsLimit descriptor commands) = programs.Cap_fcntls_limit (operand_of descriptor) commands.0
syscall_of call.CapEnter = programs.Cap_enter
syscall_of call.CapGetmode = programs.Cap_getmode
syscall_of call.Socketpair = programs.Socketpair
syscall_of call.Fork = programs.Fork
syscall_of (call.Use descriptor right) = programs.Use (operand_of descriptor) right.0

abbrev pub instruction_of : InstructionCode → Instruction
instruction_of (instruction.Set register value) = programs.Set register value
instruction_of (instruction.Mov register source) = programs.Mov register source
instruction_of (instruction.Add register addend) = programs.Add register addend
instruction_of (instruction.In register) = programs.In register
instruction_of (instruction.Jmp target) = programs.Jmp target
instruction_of (instruction.Jeq register value target) = programs.Jeq register value target
instruction_of (instruction.Jlt register value target) = programs.Jlt register value target
instruction_of instruction.Halt = programs.Halt
instruction_of (instruction.Invoke call otherwise) = programs.Invoke (syscall_of call) otherwise

abbrev pub code_of : List InstructionCode → List Instruction
code_of code = map instruction_of code

abbrev pub listed : Option ℕ → List ℕ
listed None = []
listed (Some point) = point ∷ []

abbrev pub successors_of : Successors → List ℕ
successors_of s = listed s.next ++ listed s.other
