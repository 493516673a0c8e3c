-- Limits in the instructions of a program are known.
use Rattle.std.proofs.Common.{◌≡◌, ℕ, ◌<◌, true, List, length, ap, ◌∙◌, refl}
use Rattle.std.specs.List.{list_all, slice_index_or}
use Rattle.std.specs.Option.{option_map}
use Rattle.std.proofs.lemmas.Option.{slice_get_read, slice_get-map}
use Rattle.rights.proofs.Lists.{list_all-slice_get}
use Rattle.instruction_set.specs.declared.instructions.Instruction.{Instruction as InstructionCode}
use Rattle.instruction_set.specs.Views.{code_of, instruction_of}
use Rattle.transfer.specs.Limits.{leaves_known}

pub known_at : (code : List InstructionCode) (point : ℕ) (i : InstructionCode) → list_all leaves_known (code_of code) ≡ true
    → point < length code → i ≡ slice_index_or code point i → leaves_known (instruction_of i) ≡ true
known_at code point i all below is =
    list_all-slice_get leaves_known (code_of code) point (instruction_of i) all
    (slice_get-map instruction_of code point ∙ ap (option_map instruction_of) (slice_get_read code (length code) point i refl below is))
