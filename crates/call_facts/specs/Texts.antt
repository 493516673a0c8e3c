-- A call as a program has it, in front of `else`. (own)
use Rattle.std.specs.Prelude.{ℕ, Bool, true, false, List, [], ◌++◌, codes}
use Rattle.std.specs.Fmt.{decimal}
use Rattle.std.specs.List.{flat_map}
use Rattle.instruction_set.specs.Programs.{Operand, Register, Number, Syscall, called}
use Rattle.rights.specs.Calls.{Call, call_name}
use Rattle.rights.specs.Values.{PathText}
use Rattle.call_facts.specs.Arguments.{Argument, Descriptor, Path, Flags, Rights, Commands, Amount, Status, Choice, arguments}
use Rattle.call_facts.specs.Sets.{command_rows, flag_rows, flag_set, right_rows, set_word}

abbrev pub operand_text : Operand → List ℕ
operand_text (Number number) = codes " " ++ decimal number
operand_text (Register register) = codes " r" ++ decimal register

abbrev pub path_text : PathText → List ℕ
path_text path = codes " \"" ++ (path ++ codes "\"")

abbrev pub choice_text : Bool → List ℕ
choice_text true = codes " dir"
choice_text false = []

abbrev pub argument_text : Argument → List ℕ
argument_text (Descriptor x) = operand_text x
argument_text (Path path) = path_text path
argument_text (Flags flags) = codes " " ++ set_word flag_rows (flag_set flags)
argument_text (Rights rights) = codes " " ++ set_word right_rows rights
argument_text (Commands commands) = codes " " ++ set_word command_rows commands
argument_text (Amount x) = operand_text x
argument_text (Status x) = operand_text x
argument_text (Choice is_directory) = choice_text is_directory

abbrev pub text_of : Call → List Argument → List ℕ
text_of call arguments = call_name call ++ flat_map argument_text arguments

abbrev pub call_text : Syscall → List ℕ
call_text call = text_of (called call) (arguments call)
