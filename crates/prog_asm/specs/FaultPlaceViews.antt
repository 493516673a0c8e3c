-- What the code's faults stand for, with their places.
use Rattle.std.specs.Prelude.{List, [], ◌∷◌, Option, None, Some, map, option_map}
use Rattle.prog_asm.specs.declared.faults.LineFault.{LineFault as LineFaultCode}
use Rattle.prog_asm.specs.declared.faults.LineMistake.{LineMistake}
use Rattle.prog_asm.specs.declared.faults.LineMistake.TheVariants as mistake
use Rattle.instruction_set.specs.Assembly.{Mistake}
use Rattle.instruction_set.specs.Assembly as assembly
use Rattle.prog_asm.specs.FormViews.{form_of}
use Rattle.prog_asm.specs.LineFaults.{LineFault}
use Rattle.prog_asm.specs.LineViews.{span_seen}

abbrev pub mistake_of : LineMistake → Mistake
mistake_of mistake.Word = assembly.Word
mistake_of mistake.Operand = assembly.Operand
mistake_of mistake.NoLabel = assembly.NoLabel
mistake_of mistake.TwiceLabel = assembly.TwiceLabel
mistake_of mistake.TooMany = assembly.TooMany
mistake_of mistake.FallsOff = assembly.FallsOff

abbrev pub fault_seen : LineFaultCode → LineFault
fault_seen fault = record { mistake = mistake_of fault.mistake; line = fault.line; span = span_seen fault.span; wants = option_map form_of fault.wants }

abbrev pub faults_seen : List LineFaultCode → List LineFault
faults_seen faults = map fault_seen faults

-- one, if there is one
abbrev pub list_of : {A : Type 0} → Option A → List A
list_of None = []
list_of (Some a) = a ∷ []
