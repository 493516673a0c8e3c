-- Limits in the instructions of a valid program are known.
use Rattle.std.proofs.Common.{◌≡◌, ℕ, true, List, ap, sym, ◌∙◌}
use Rattle.std.specs.Prelude.{Option, Some, None, IfSome, option_map}
use Rattle.std.specs.List.{list_all, slice_get}
use Rattle.rights.proofs.Lists.{list_all-slice_get}
use Rattle.instruction_set.specs.declared.instructions.Instruction.{Instruction as InstructionCode}
use Rattle.instruction_set.specs.Views.{code_of}
use Rattle.instruction_set.specs.Programs.{Instruction, is_program}
use Rattle.transfer.specs.Limits.{leaves_known}
use Rattle.transfer.proofs.Known.{program_known}

-- of a valid program's code
pub all_known : (code : List InstructionCode) {program : List Instruction} → code_of code ≡ program → is_program program ≡ true
    → list_all leaves_known (code_of code) ≡ true
all_known code {program} is valid = ap (list_all leaves_known) is ∙ program_known program valid

-- of the instruction at a point, if there is one
pub known_there : {A : Type 0} (seen : A → Instruction) (found : Option A) (code : List Instruction) (point : ℕ) → list_all leaves_known code ≡ true
    → option_map seen found ≡ slice_get code point → IfSome found (λ i. leaves_known (seen i) ≡ true)
known_there seen None code point known is = tt
known_there seen (Some i) code point known is = list_all-slice_get leaves_known code point (seen i) known (sym is)
