-- Limits in a valid program leave rights, or commands, that there are.
use Rattle.std.proofs.Common.{◌≡◌, ℕ, true, List, [], ◌∷◌, length, refl}
use Rattle.std.specs.Prelude.{◌&&◌, nat_lt, nat_le}
use Rattle.std.specs.Cmp.Derive.{both_true}
use Rattle.std.specs.List.{list_all}
use Rattle.rights.specs.Limits.{most_instructions}
use Rattle.rights.specs.Sets.{is_within, all_rights, all_commands}
use Rattle.rights.proofs.Tests.{both_left, both_right}
use Rattle.instruction_set.specs.Programs.{Syscall, Cap_rights_limit, Cap_fcntls_limit, Instruction, Invoke, is_operand, is_syscall, is_instruction, ends_well, is_program}
use Rattle.transfer.specs.Limits.{has_known_limit, leaves_known}

known_call : (call : Syscall) → is_syscall call ≡ true → has_known_limit call ≡ true
known_call (Cap_rights_limit x rights) valid = both_right (is_operand x) (is_within rights all_rights) valid
known_call (Cap_fcntls_limit x commands) valid = both_right (is_operand x) (is_within commands all_commands) valid
known_call _ valid = refl

known_instruction : (points : ℕ) (i : Instruction) → is_instruction points i ≡ true → leaves_known i ≡ true
known_instruction points (Invoke call otherwise) valid = known_call call (both_left (is_syscall call) (nat_lt otherwise points) valid)
known_instruction points _ valid = refl

known_each : (points : ℕ) (code : List Instruction) → list_all (is_instruction points) code ≡ true → list_all leaves_known code ≡ true
known_each points [] valid = refl
known_each points (i ∷ code) valid =
    both_true (known_instruction points i (both_left (is_instruction points i) (list_all (is_instruction points) code) valid))
    (known_each points code (both_right (is_instruction points i) (list_all (is_instruction points) code) valid))

pub program_known : (code : List Instruction) → is_program code ≡ true → list_all leaves_known code ≡ true
program_known code valid =
    known_each (length code) code
    (both_right (nat_le (length code) most_instructions) (list_all (is_instruction (length code)) code)
    (both_left (nat_le (length code) most_instructions && list_all (is_instruction (length code)) code) (ends_well code) valid))
