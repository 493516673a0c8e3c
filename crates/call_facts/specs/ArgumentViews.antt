-- What the code's arguments of a call stand for.
use Rattle.std.specs.Prelude.{List, [], ◌∷◌}
use Rattle.instruction_set.specs.Views.{operand_of}
use Rattle.call_facts.specs.declared.arguments.Argument.{Argument as ArgumentCode}
use Rattle.call_facts.specs.declared.arguments.Argument.TheVariants as argument
use Rattle.call_facts.specs.declared.arguments.Arguments.{Arguments as ArgumentsCode}
use Rattle.call_facts.specs.declared.arguments.Arguments.TheVariants as arguments
use Rattle.call_facts.specs.Arguments.{Argument, Descriptor, Path, Flags, Rights, Commands, Amount, Status, Choice}

abbrev pub argument_seen : ArgumentCode → Argument
argument_seen (argument.Descriptor x) = Descriptor (operand_of x)
argument_seen (argument.Path path) = Path path.now
argument_seen (argument.Flags flags) = Flags flags
argument_seen (argument.Rights rights) = Rights rights.0
argument_seen (argument.Commands commands) = Commands commands.0
argument_seen (argument.Amount x) = Amount (operand_of x)
argument_seen (argument.Status x) = Status (operand_of x)
argument_seen (argument.Choice is_directory) = Choice is_directory

abbrev pub arguments_seen : ArgumentsCode → List Argument
arguments_seen arguments.None = []
arguments_seen (arguments.One a) = argument_seen a ∷ []
arguments_seen (arguments.Two a b) = argument_seen a ∷ argument_seen b ∷ []
arguments_seen (arguments.Three a b c) = argument_seen a ∷ argument_seen b ∷ argument_seen c ∷ []
arguments_seen (arguments.Four a b c d) = argument_seen a ∷ argument_seen b ∷ argument_seen c ∷ argument_seen d ∷ []
