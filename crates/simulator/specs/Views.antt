-- What the code's lines and actions stand for.
use Rattle.std.specs.Prelude.{ℕ, List, Option}
use Rattle.std.specs.Option.{option_map}
use Rattle.file_tree.specs.Nodes.{Node}
use Rattle.rights.specs.Views.{errno_of, cause_of}
use Rattle.kernel.specs.Steps.{LineResult, No_call, Halted, Value, Failed, Waiting, Walks_on, Ended}
use Rattle.syscalls.specs.Views.{effects_in, effects_of}
use Rattle.simulator.specs.declared.lines.LineResult.{LineResult as LineResultCode}
use Rattle.simulator.specs.declared.lines.LineResult.TheVariants as code
use Rattle.simulator.specs.declared.lines.Acted.{Acted as ActedCode}
use Rattle.simulator.specs.declared.lines.Line.{Line as LineCode}
use Rattle.simulator.specs.declared.lines.Stepped.{Stepped as SteppedCode}
use Rattle.simulator.specs.declared.actions.Action.{Action as ActionCode}
use Rattle.simulator.specs.declared.actions.Action.TheVariants as does
use Rattle.simulator.specs.Lines.{Line, ShownStep}
use Rattle.simulator.specs.Steps.{Action, Moves, Ends, Calls}

abbrev pub result_of : LineResultCode → LineResult
result_of code.Done = No_call
result_of code.Halted = Halted
result_of (code.Value n) = Value n
result_of (code.Failed errno cause) = Failed (errno_of errno) (cause_of cause)
result_of code.Waiting = Waiting
result_of code.Walking = Walks_on
result_of code.Ended = Ended

abbrev pub acted_of : ActedCode → ShownStep
acted_of a = record { program = a.program; point = a.point; outcome = result_of a.outcome; effects = effects_of a.effects.items }

-- The same in a world that has these nodes.
abbrev pub stepped_in : List Node → SteppedCode → ShownStep
stepped_in t s = record { program = s.program; point = s.point; outcome = result_of s.outcome; effects = effects_in t s.effects }

abbrev pub stepped_line : List Node → ℕ → Option SteppedCode → Line
stepped_line t process stepped = record { process = process; acted = option_map (stepped_in t) stepped }

abbrev pub line_of : LineCode → Line
line_of l = record { process = l.process; acted = option_map acted_of l.acted }

abbrev pub action_of : ActionCode → Action
action_of does.Moves = Moves
action_of does.Ends = Ends
action_of does.Calls = Calls
