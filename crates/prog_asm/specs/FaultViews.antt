-- The faults: their numbers, names and lines, and when a call that reads a text has one.
use Rattle.std.specs.Prelude.{◌≡◌, ℕ, List, codes, Option, Some, None, Result, Ok, Err}
use Rattle.prog_asm.specs.declared.faults.AsmFault.{AsmFault}
use Rattle.prog_asm.specs.declared.faults.AsmFault.TheVariants as asm
use Rattle.prog_asm.specs.declared.faults.LineMistake.{LineMistake}
use Rattle.prog_asm.specs.declared.faults.LineMistake.TheVariants as mistake
use Rattle.instruction_set.specs.Assembly.{Fault, fault, mistake_number}
use Rattle.instruction_set.specs.Assembly as assembly

abbrev pub fault_number : AsmFault → ℕ
fault_number (asm.Word line) = mistake_number assembly.Word
fault_number (asm.Operand line) = mistake_number assembly.Operand
fault_number (asm.NoLabel line) = mistake_number assembly.NoLabel
fault_number (asm.TwiceLabel line) = mistake_number assembly.TwiceLabel
fault_number (asm.TooMany line) = mistake_number assembly.TooMany
fault_number (asm.FallsOff line) = mistake_number assembly.FallsOff
fault_number asm.Memory = 7

abbrev pub fault_name : AsmFault → List ℕ
fault_name (asm.Word line) = codes "Word"
fault_name (asm.Operand line) = codes "Operand"
fault_name (asm.NoLabel line) = codes "NoLabel"
fault_name (asm.TwiceLabel line) = codes "TwiceLabel"
fault_name (asm.TooMany line) = codes "TooMany"
fault_name (asm.FallsOff line) = codes "FallsOff"
fault_name asm.Memory = codes "Memory"

abbrev pub fault_line : AsmFault → Option ℕ
fault_line (asm.Word line) = Some line
fault_line (asm.Operand line) = Some line
fault_line (asm.NoLabel line) = Some line
fault_line (asm.TwiceLabel line) = Some line
fault_line (asm.TooMany line) = Some line
fault_line (asm.FallsOff line) = Some line
fault_line asm.Memory = None

-- the fault of a text whose first is this
abbrev pub fault_at : LineMistake → ℕ → AsmFault
fault_at mistake.Word line = asm.Word line
fault_at mistake.Operand line = asm.Operand line
fault_at mistake.NoLabel line = asm.NoLabel line
fault_at mistake.TwiceLabel line = asm.TwiceLabel line
fault_at mistake.TooMany line = asm.TooMany line
fault_at mistake.FallsOff line = asm.FallsOff line

-- the fault, want of memory aside
abbrev pub FaultIs : {X : Type 0} → AsmFault → Result X Fault → Type 0
FaultIs (asm.Word line) read = read ≡ Err (fault assembly.Word line)
FaultIs (asm.Operand line) read = read ≡ Err (fault assembly.Operand line)
FaultIs (asm.NoLabel line) read = read ≡ Err (fault assembly.NoLabel line)
FaultIs (asm.TwiceLabel line) read = read ≡ Err (fault assembly.TwiceLabel line)
FaultIs (asm.TooMany line) read = read ≡ Err (fault assembly.TooMany line)
FaultIs (asm.FallsOff line) read = read ≡ Err (fault assembly.FallsOff line)
FaultIs asm.Memory read = Unit {0}

-- What is read is what the definition gives, or its fault.
abbrev pub Gives : {X Y : Type 0} → (X → Y) → Result X AsmFault → Result Y Fault → Type 0
Gives view (Ok x) read = read ≡ Ok (view x)
Gives view (Err error) read = FaultIs error read
