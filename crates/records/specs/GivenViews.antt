-- The kinds of operands that the code gives to calls.
use Rattle.records.specs.declared.real_calls.Given.{Given}
use Rattle.records.specs.declared.real_calls.Given.TheVariants as given
use Rattle.records.specs.Calls.{OperandKind, A_number, A_path, Open_flags, A_right_set, A_command_set, A_choice}

abbrev pub given_kind : Given → OperandKind
given_kind (given.Number number) = A_number
given_kind (given.Path path) = A_path
given_kind (given.Flags flags) = Open_flags
given_kind (given.Directory asked) = A_choice
given_kind (given.Rights names) = A_right_set
given_kind (given.Commands names) = A_command_set
