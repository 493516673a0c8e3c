-- What the code's operands stand for.
use Rattle.records.specs.declared.operands.Kind.{Kind as KindCode}
use Rattle.records.specs.declared.operands.Kind.TheVariants as kind
use Rattle.records.specs.declared.operands.Operand.{Operand as OperandCode}
use Rattle.records.specs.declared.operands.Operand.TheVariants as operand
use Rattle.records.specs.Calls.{RealOperand, Number, Path, Flags, Rights, Commands, Directory, OperandKind, A_number, A_path, Open_flags, A_right_set, A_command_set, A_choice}

abbrev pub kind_seen : KindCode → OperandKind
kind_seen kind.Number = A_number
kind_seen kind.Path = A_path
kind_seen kind.Flags = Open_flags
kind_seen kind.Rights = A_right_set
kind_seen kind.Commands = A_command_set
kind_seen kind.Directory = A_choice

abbrev pub operand_seen : OperandCode → RealOperand
operand_seen (operand.Number number) = Number number
operand_seen (operand.Path path) = Path path.items
operand_seen (operand.Flags flags) = Flags flags
operand_seen (operand.Rights rights) = Rights rights.0
operand_seen (operand.Commands commands) = Commands commands.0
operand_seen (operand.Directory asked) = Directory asked
