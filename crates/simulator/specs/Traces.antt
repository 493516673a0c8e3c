-- The text of a trace: a line for each event. (own)
use Rattle.std.specs.Prelude.{ℕ, List, [], ◌∷◌, ◌++◌, codes, Option, Some, None}
use Rattle.std.specs.List.{flat_map}
use Rattle.std.specs.Fmt.{decimal}
use Rattle.rights.specs.Errors.{errno_name, cause_name}
use Rattle.rights.specs.OperationLists.{operation_name}
use Rattle.kernel.specs.Answers.{Event}
use Rattle.kernel.specs.Steps.{LineResult, No_call, Halted, Value, Failed, Waiting, Walks_on, Ended, Acted}
use Rattle.syscalls.specs.Shows.{Shown}
use Rattle.task.specs.Plans.{Plan, program_name}
use Rattle.simulator.specs.Lines.{Line, ShownStep, line_at}

abbrev pub result_text : LineResult → List ℕ
result_text No_call = codes "ok"
result_text Halted = codes "halt"
result_text (Value n) = codes "= " ++ decimal n
result_text (Failed errno cause) = codes "! " ++ errno_name errno ++ codes " " ++ cause_name cause
result_text Waiting = codes "wait"
result_text Walks_on = codes "walk"
result_text Ended = codes "ended"

-- ` read /work/in`
abbrev pub effect_text : Shown → List ℕ
effect_text e = codes " " ++ operation_name e.operation ++ codes " " ++ e.place

-- ` main:1 = 65 read /work/in`, or ` - none`
abbrev pub acted_text : Plan → Option ShownStep → List ℕ
acted_text plan None = codes " - none"
acted_text plan (Some a) =
    codes " " ++ program_name plan a.program ++ codes ":" ++ decimal a.point ++ codes " " ++ result_text a.outcome
    ++ flat_map effect_text a.effects

abbrev pub line_text : Plan → Line → List ℕ
line_text plan line = decimal line.process ++ acted_text plan line.acted ++ codes "\n"

abbrev pub trace_text : Plan → List Event → List (Option Acted) → List ℕ
trace_text plan (e ∷ events) (acted ∷ lines) = line_text plan (line_at e acted) ++ trace_text plan events lines
trace_text plan [] lines = []
trace_text plan (e ∷ events) [] = []
