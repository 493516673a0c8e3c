-- The faults of the reader: their numbers, and what its answers say of a definition's. Want of memory may come in place of
-- any answer.
use Rattle.std.specs.Prelude.{◌≡◌, ℕ, List, Option, Some, None, Result, Ok, Err, IsOk, codes, string_bytes}
use Rattle.prog_asm.specs.declared.faults.AsmFault.{AsmFault}
use Rattle.prog_asm.specs.declared.faults.AsmFault.TheVariants as asm
use Rattle.instruction_set.specs.Assembly.{Fault, fault}
use Rattle.instruction_set.specs.Assembly as assembly
use Rattle.task_reader.specs.declared.faults.TaskFault.{TaskFault}
use Rattle.task_reader.specs.declared.faults.TaskFault.TheVariants as code
use Rattle.task_reader.specs.Reading.{Mistake, Not_toml, Wrong_field, Wrong_node, Wrong_grant, Wrong_descriptor, Wrong_program, Past_limit}

abbrev pub fault_number : TaskFault → ℕ
fault_number code.NotToml = 1
fault_number code.Field = 2
fault_number code.Node = 3
fault_number code.Grant = 4
fault_number code.Descriptor = 5
fault_number (code.Asm program why) = 6
fault_number code.Limit = 7
fault_number code.Memory = 8

abbrev pub fault_name : TaskFault → List ℕ
fault_name code.NotToml = codes "NotToml"
fault_name code.Field = codes "Field"
fault_name code.Node = codes "Node"
fault_name code.Grant = codes "Grant"
fault_name code.Descriptor = codes "Descriptor"
fault_name (code.Asm program why) = codes "Asm"
fault_name code.Limit = codes "Limit"
fault_name code.Memory = codes "Memory"

-- the fault of a text, want of memory aside
abbrev pub text_fault : AsmFault → Option Fault
text_fault (asm.Word line) = Some (fault assembly.Word line)
text_fault (asm.Operand line) = Some (fault assembly.Operand line)
text_fault (asm.NoLabel line) = Some (fault assembly.NoLabel line)
text_fault (asm.TwiceLabel line) = Some (fault assembly.TwiceLabel line)
text_fault (asm.TooMany line) = Some (fault assembly.TooMany line)
text_fault (asm.FallsOff line) = Some (fault assembly.FallsOff line)
text_fault asm.Memory = None

abbrev pub IsProgramFault : {Y : Type 0} → List ℕ → Option Fault → Result Y Mistake → Type 0
IsProgramFault name None read = ⊥
IsProgramFault name (Some why) read = read ≡ Err (Wrong_program name why)

abbrev pub FaultIs : {Y : Type 0} → TaskFault → Result Y Mistake → Type 0
FaultIs code.NotToml read = read ≡ Err Not_toml
FaultIs code.Field read = read ≡ Err Wrong_field
FaultIs code.Node read = read ≡ Err Wrong_node
FaultIs code.Grant read = read ≡ Err Wrong_grant
FaultIs code.Descriptor read = read ≡ Err Wrong_descriptor
FaultIs (code.Asm program why) read = IsProgramFault (string_bytes program) (text_fault why) read
FaultIs code.Limit read = read ≡ Err Past_limit
FaultIs code.Memory read = Unit {0}

-- What is read is what the definition gives, or its mistake.
abbrev pub ReadsTask : {X Y : Type 0} → (X → Y) → Result X TaskFault → Result Y Mistake → Type 0
ReadsTask view (Ok x) read = read ≡ Ok (view x)
ReadsTask view (Err error) read = FaultIs error read

-- What passes a check is what the definition gives something for, and what doesn't is its mistake.
abbrev pub Checks : {X Y : Type 0} → Result X TaskFault → Result Y Mistake → Type 0
Checks (Ok x) read = IsOk read
Checks (Err error) read = FaultIs error read
