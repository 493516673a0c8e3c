-- The fault of a line.
use Rattle.std.specs.Prelude.{ℕ}
use Rattle.records.specs.declared.faults.CallsFault.{CallsFault}
use Rattle.records.specs.declared.faults.CallsFault.TheVariants as faults
use Rattle.records.specs.declared.faults.LineFault.{LineFault}
use Rattle.records.specs.declared.faults.LineFault.TheVariants as line

abbrev pub fault_of_line : LineFault → ℕ → CallsFault
fault_of_line line.Form number = faults.Form number
fault_of_line line.Memory number = faults.Memory
