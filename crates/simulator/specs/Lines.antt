-- Lines of a trace. (own)
use Rattle.std.specs.Prelude.{ℕ, List, map, Option}
use Rattle.std.specs.Option.{option_map}
use Rattle.kernel.specs.Answers.{Event}
use Rattle.kernel.specs.Steps.{LineResult, Acted}
use Rattle.syscalls.specs.Shows.{Shown, shown}

-- what a process that was made did; its effects have their places as texts
pub record ShownStep : Type 0 where
  pub program : ℕ
  pub point : ℕ
  pub outcome : LineResult
  pub effects : List Shown

pub record Line : Type 0 where
  pub process : ℕ
  pub acted : Option ShownStep  -- nothing if the process was not made

abbrev pub shown_step : Acted → ShownStep
shown_step a = record { program = a.program; point = a.point; outcome = a.outcome; effects = map shown a.effects }

-- the line of an event
abbrev pub line_at : Event → Option Acted → Line
line_at e acted = record { process = e.process; acted = option_map shown_step acted }
