-- What attackers do, and the text of a run in which they break something. (own)
use Rattle.std.specs.Prelude.{◌≡◌, ℕ, List, [], ◌++◌, codes, Option, Some, None}
use Rattle.std.specs.Fmt.{decimal}
use Rattle.std.specs.List.{flat_map}
use Rattle.call_facts.specs.Texts.{call_text}
use Rattle.instruction_set.specs.Programs.{Instruction, Invoke}
use Rattle.kernel.specs.Answers.{Event}
use Rattle.simulator.specs.Lines.{Line, ShownStep}
use Rattle.simulator.specs.Traces.{effect_text, line_text, result_text}
use Rattle.task.specs.Plans.{Plan, program_name}
use Rattle.explore.specs.Breaches.{Breach}
use Rattle.explore.specs.Texts.{breach_text, schedule_part}

-- a deed that is a call, as a program has it in front of `else`
abbrev pub deed_text : Instruction → List ℕ
deed_text (Invoke call otherwise) = call_text call
deed_text instruction = []

-- ` worker by an attacker: close 0`
abbrev pub attacker_text : List ℕ → Instruction → List ℕ
attacker_text program deed = codes " " ++ program ++ codes " by an attacker: " ++ deed_text deed

-- who does a step: a process at a point of its program, as ` worker:4`, or an attacker in its place
abbrev pub doer_text : Plan → Option Instruction → ShownStep → List ℕ
doer_text plan None a = codes " " ++ program_name plan a.program ++ codes ":" ++ decimal a.point
doer_text plan (Some deed) a = attacker_text (program_name plan a.program) deed

abbrev pub attacked_step_text : Plan → Option Instruction → ShownStep → List ℕ
attacked_step_text plan deed a = doer_text plan deed a ++ codes " " ++ result_text a.outcome ++ flat_map effect_text a.effects

abbrev pub done_text : Plan → Option Instruction → Option ShownStep → List ℕ
done_text plan deed None = codes " - none"
done_text plan deed (Some a) = attacked_step_text plan deed a

-- a line of a trace, as of a run without attackers but for their deeds
abbrev pub attack_line : Plan → Option Instruction → Line → List ℕ
attack_line plan deed line = decimal line.process ++ done_text plan deed line.acted ++ codes "\n"

abbrev pub unplayed : List ℕ
unplayed = codes "capcheck run doesn't play this schedule: the task has no attacker's steps\n"

-- the schedule, a blank line, a trace, and what is broken
abbrev pub attack_run_text : List Event → List ℕ → Breach → List ℕ → List ℕ
attack_run_text events trace breach detail = schedule_part events ++ (trace ++ (breach_text breach detail ++ unplayed))

-- A step without an attacker is told as a trace tells it.
abbrev pub OwnStepsAreTraced : Type 0
OwnStepsAreTraced = (plan : Plan) (line : Line) → attack_line plan None line ≡ line_text plan line
