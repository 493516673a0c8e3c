-- Programs: instructions by point, over eight registers of 32 bits. (own)
use Rattle.std.specs.Prelude.{◌==◌, ◌^◌, ℕ, Bool, true, false, ◌&&◌, nat_le, nat_lt, List, [], ◌∷◌, length}
use Rattle.std.specs.List.{list_all}
use Rattle.rights.specs.Limits.{most_instructions, register_count}
use Rattle.std.proofs.Math.Bool.{not}
use Rattle.rights.specs.Values.{PathText, RightSet, CommandSet}
use Rattle.texts.specs.Bytes.{quote, backslash}
use Rattle.rights.specs.Opens.{OpenRequest, is_valid}
use Rattle.rights.specs.Sets.{is_within, all_rights, all_commands}
use Rattle.rights.specs.Uses.{is_further_right}
use Rattle.rights.specs.Calls.{Call}
use Rattle.rights.specs.Calls as calls

-- A register, by its number, or a number itself. (own)
pub data Operand : Type 0 where
  Register : (register : ℕ) → Operand
  Number : (number : ℕ) → Operand

-- A system call with its operands. Paths are bytes, rights and commands are sets by their bits.
-- (capsicum(4), open(2), read(2), write(2), lseek(2), ftruncate(2), fsync(2), fstat(2), fcntl(2),
-- mkdir(2), unlink(2), rename(2), dup(2), close(2), cap_rights_limit(2), cap_fcntls_limit(2),
-- cap_enter(2), socketpair(2), fork(2); sendfd and recvfd are sendmsg(2) and recvmsg(2) with one
-- descriptor; use stands for each call that needs a further right, after rights(4); that an operand may be a register is own)
pub data Syscall : Type 0 where
  Open : (path : PathText) (flags : OpenRequest) → Syscall
  Openat : (descriptor : Operand) (path : PathText) (flags : OpenRequest) → Syscall
  Read : (descriptor : Operand) → Syscall
  Write : (descriptor value : Operand) → Syscall
  Sendfd : (descriptor sent value : Operand) → Syscall
  Recvfd : (descriptor : Operand) → Syscall
  Lseek : (descriptor offset : Operand) → Syscall
  Ftruncate : (descriptor len : Operand) → Syscall
  Fsync : (descriptor : Operand) → Syscall
  Fstat : (descriptor : Operand) → Syscall
  Fcntl_getfl : (descriptor : Operand) → Syscall
  Fcntl_setfl : (descriptor flags : Operand) → Syscall
  Fstatat : (descriptor : Operand) (path : PathText) → Syscall
  Stat : (path : PathText) → Syscall
  Mkdirat : (descriptor : Operand) (path : PathText) → Syscall
  Mkdir : (path : PathText) → Syscall
  Unlinkat : (descriptor : Operand) (path : PathText) (directory : Bool) → Syscall
  Unlink : (path : PathText) (directory : Bool) → Syscall
  Renameat : (descriptor : Operand) (path : PathText) (target : Operand) (new_path : PathText) → Syscall
  Dup : (descriptor : Operand) → Syscall
  Close : (descriptor : Operand) → Syscall
  Cap_rights_limit : (descriptor : Operand) (rights : RightSet) → Syscall
  Cap_fcntls_limit : (descriptor : Operand) (commands : CommandSet) → Syscall
  Cap_enter : Syscall
  Cap_getmode : Syscall
  Socketpair : Syscall
  Fork : Syscall
  Use : (descriptor : Operand) (right : RightSet) → Syscall

-- the call without its operands
abbrev pub called : Syscall → Call
called (Open path flags) = calls.Open
called (Openat descriptor path flags) = calls.Openat
called (Read descriptor) = calls.Read
called (Write descriptor value) = calls.Write
called (Sendfd descriptor sent value) = calls.Sendfd
called (Recvfd descriptor) = calls.Recvfd
called (Lseek descriptor offset) = calls.Lseek
called (Ftruncate descriptor len) = calls.Ftruncate
called (Fsync descriptor) = calls.Fsync
called (Fstat descriptor) = calls.Fstat
called (Fcntl_getfl descriptor) = calls.Fcntl_getfl
called (Fcntl_setfl descriptor flags) = calls.Fcntl_setfl
called (Fstatat descriptor path) = calls.Fstatat
called (Stat path) = calls.Stat
called (Mkdirat descriptor path) = calls.Mkdirat
called (Mkdir path) = calls.Mkdir
called (Unlinkat descriptor path directory) = calls.Unlinkat
called (Unlink path directory) = calls.Unlink
called (Renameat descriptor path target new_path) = calls.Renameat
called (Dup descriptor) = calls.Dup
called (Close descriptor) = calls.Close
called (Cap_rights_limit descriptor rights) = calls.Cap_rights_limit
called (Cap_fcntls_limit descriptor commands) = calls.Cap_fcntls_limit
called Cap_enter = calls.Cap_enter
called Cap_getmode = calls.Cap_getmode
called Socketpair = calls.Socketpair
called Fork = calls.Fork
called (Use descriptor right) = calls.Use

-- An instruction. A target is a point. (own)
pub data Instruction : Type 0 where
  Set : (register value : ℕ) → Instruction  -- the register gets the value
  Mov : (register source : ℕ) → Instruction  -- the first register gets the second's value
  Add : (register addend : ℕ) → Instruction  -- the second's value is added to the first, modulo 2 ^ 32
  In : (register : ℕ) → Instruction  -- the register gets the event's byte
  Jmp : (target : ℕ) → Instruction  -- goes to the target
  Jeq : (register value target : ℕ) → Instruction  -- goes there if the register has the value
  Jlt : (register value target : ℕ) → Instruction  -- goes there if it has less
  Halt : Instruction  -- ends the process and closes its table
  Invoke : (call : Syscall) (otherwise : ℕ) → Instruction  -- `otherwise` is where an error leads

abbrev pub is_register : ℕ → Bool
is_register register = nat_lt register register_count

-- what a register can hold
abbrev pub is_value : ℕ → Bool
is_value value = nat_lt value (2 ^ 32)

abbrev pub is_operand : Operand → Bool
is_operand (Register register) = is_register register
is_operand (Number number) = is_value number

-- Paths are of bytes 33 to 126 without `"` and `\`. How long they may be is asked when they are walked. (own)
abbrev pub is_path_byte : ℕ → Bool
is_path_byte byte = nat_le 33 byte && nat_le byte 126 && not (byte == quote) && not (byte == backslash)

abbrev pub is_path : PathText → Bool
is_path path = list_all is_path_byte path

-- each operand is one, each path a path, each open's flags are valid, limits leave rights and commands that there are, and a use is of one further right
abbrev pub is_syscall : Syscall → Bool
is_syscall (Open path flags) = is_path path && is_valid flags
is_syscall (Openat descriptor path flags) = is_operand descriptor && is_path path && is_valid flags
is_syscall (Read descriptor) = is_operand descriptor
is_syscall (Write descriptor value) = is_operand descriptor && is_operand value
is_syscall (Sendfd descriptor sent value) = is_operand descriptor && is_operand sent && is_operand value
is_syscall (Recvfd descriptor) = is_operand descriptor
is_syscall (Lseek descriptor offset) = is_operand descriptor && is_operand offset
is_syscall (Ftruncate descriptor len) = is_operand descriptor && is_operand len
is_syscall (Fsync descriptor) = is_operand descriptor
is_syscall (Fstat descriptor) = is_operand descriptor
is_syscall (Fcntl_getfl descriptor) = is_operand descriptor
is_syscall (Fcntl_setfl descriptor flags) = is_operand descriptor && is_operand flags
is_syscall (Fstatat descriptor path) = is_operand descriptor && is_path path
is_syscall (Stat path) = is_path path
is_syscall (Mkdirat descriptor path) = is_operand descriptor && is_path path
is_syscall (Mkdir path) = is_path path
is_syscall (Unlinkat descriptor path directory) = is_operand descriptor && is_path path
is_syscall (Unlink path directory) = is_path path
is_syscall (Renameat descriptor path target new_path) = is_operand descriptor && is_path path && is_operand target && is_path new_path
is_syscall (Dup descriptor) = is_operand descriptor
is_syscall (Close descriptor) = is_operand descriptor
is_syscall (Cap_rights_limit descriptor rights) = is_operand descriptor && is_within rights all_rights
is_syscall (Cap_fcntls_limit descriptor commands) = is_operand descriptor && is_within commands all_commands
is_syscall Cap_enter = true
is_syscall Cap_getmode = true
is_syscall Socketpair = true
is_syscall Fork = true
is_syscall (Use descriptor right) = is_operand descriptor && is_further_right right

-- each register is one, each number a register can hold, each target a point of the program
abbrev pub is_instruction : ℕ → Instruction → Bool
is_instruction points (Set register value) = is_register register && is_value value
is_instruction points (Mov register source) = is_register register && is_register source
is_instruction points (Add register addend) = is_register register && is_register addend
is_instruction points (In register) = is_register register
is_instruction points (Jmp target) = nat_lt target points
is_instruction points (Jeq register value target) = is_register register && is_value value && nat_lt target points
is_instruction points (Jlt register value target) = is_register register && is_value value && nat_lt target points
is_instruction points Halt = true
is_instruction points (Invoke call otherwise) = is_syscall call && nat_lt otherwise points

-- nothing goes on past it
abbrev pub is_last : Instruction → Bool
is_last (Set register value) = false
is_last (Mov register source) = false
is_last (Add register addend) = false
is_last (In register) = false
is_last (Jmp target) = true
is_last (Jeq register value target) = false
is_last (Jlt register value target) = false
is_last Halt = true
is_last (Invoke call otherwise) = false

abbrev pub ends_well : List Instruction → Bool
ends_well [] = false
ends_well (i ∷ []) = is_last i
ends_well (i ∷ next ∷ code) = ends_well (next ∷ code)

-- A program: at most 256 instructions, and each point that needs a next one has it.
abbrev pub is_program : List Instruction → Bool
is_program code = nat_le (length code) most_instructions && list_all (is_instruction (length code)) code && ends_well code
