-- What a simulation writes.
use Rattle.std.specs.Prelude.{ℕ, List, Option}
use Rattle.rights.specs.Output.{Took, TookFront}
use Rattle.kernel.specs.Answers.{Event}
use Rattle.kernel.specs.Steps.{Acted}
use Rattle.kernel.specs.Runs.{Runs}
use Rattle.task.specs.Plans.{Plan, programs_of_plan}
use Rattle.task.specs.Begins.{first_world}
use Rattle.simulator.specs.Traces.{trace_text}

-- The task's run of these events may show these lines.
abbrev pub IsRun : Plan → List Event → List (Option Acted) → Type 0
IsRun plan events lines = Runs (programs_of_plan plan) (first_world plan) events lines

-- The task has a run of these events, and what was taken is the trace of every one.
pub record WritesTrace (plan : Plan) (events : List Event) (before after : Option (List ℕ)) : Type 0 where
  pub lines : List (Option Acted)
  pub run : IsRun plan events lines
  pub every : (others : List (Option Acted)) → IsRun plan events others → Took before after (trace_text plan events others)

-- What was taken is a beginning of the trace of every run of these events.
abbrev pub WritesFront : Plan → List Event → Option (List ℕ) → Option (List ℕ) → Type 0
WritesFront plan events before after =
    (lines : List (Option Acted)) → IsRun plan events lines → TookFront before after (trace_text plan events lines)
