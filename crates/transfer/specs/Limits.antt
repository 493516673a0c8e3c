-- Limits that leave rights, or commands, that there are.
use Rattle.std.specs.Prelude.{Bool, true}
use Rattle.rights.specs.Sets.{is_within, all_rights, all_commands}
use Rattle.instruction_set.specs.Programs.{Syscall, Cap_rights_limit, Cap_fcntls_limit, Instruction, Invoke}

abbrev pub has_known_limit : Syscall → Bool
has_known_limit (Cap_rights_limit x rights) = is_within rights all_rights
has_known_limit (Cap_fcntls_limit x commands) = is_within commands all_commands
has_known_limit _ = true

abbrev pub leaves_known : Instruction → Bool
leaves_known (Invoke call otherwise) = has_known_limit call
leaves_known _ = true
