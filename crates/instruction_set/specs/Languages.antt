-- The two languages of programs. The wide one has `use`, and limits that leave further rights too. (own)
use Rattle.std.specs.Prelude.{◌||◌, Bool, true, List}
use Rattle.std.specs.List.{list_all}
use Rattle.rights.specs.Sets.{is_within, plain_rights}
use Rattle.instruction_set.specs.Programs.{Syscall, Cap_rights_limit, Use, Instruction, Invoke}

-- whether a call is of the language, the wide one or the other
abbrev pub speaks : Bool → Syscall → Bool
speaks wide (Cap_rights_limit descriptor rights) = wide || is_within rights plain_rights
speaks wide (Use descriptor right) = wide
speaks wide _ = true

abbrev pub is_spoken : Bool → Instruction → Bool
is_spoken wide (Invoke call otherwise) = speaks wide call
is_spoken wide _ = true

abbrev pub are_spoken : Bool → List Instruction → Bool
are_spoken wide code = list_all (is_spoken wide) code
