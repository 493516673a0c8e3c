-- The text of a run that breaks something: its schedule, its trace, and what its last step breaks. (own)
use Rattle.std.specs.Prelude.{ℕ, List, [], ◌++◌, codes, Option, if◌then◌else◌}
use Rattle.std.specs.List.{flat_map}
use Rattle.std.specs.Fmt.{decimal}
use Rattle.rights.specs.OperationLists.{operation_name}
use Rattle.rights.specs.Output.{Took, TookFront}
use Rattle.kernel.specs.Answers.{Event}
use Rattle.kernel.specs.Steps.{Acted}
use Rattle.task.specs.Plans.{Plan}
use Rattle.simulator.specs.Simulations.{IsRun}
use Rattle.simulator.specs.Traces.{trace_text}
use Rattle.explore.specs.Breaches.{Breach, Outside, Missing_right, Capability_mode}

-- a line of a schedule
abbrev pub event_text : Event → List ℕ
event_text e = decimal e.process ++ codes " " ++ decimal e.input ++ (if e.refuse then codes " refuse" else []) ++ codes "\n"

abbrev pub schedule_text : List Event → List ℕ
schedule_text events = flat_map event_text events

-- a schedule, and a blank line behind it
abbrev pub schedule_part : List Event → List ℕ
schedule_part events = schedule_text events ++ codes "\n"

-- `outside: remove /var/log/messages`
abbrev pub breach_words : Breach → List ℕ
breach_words (Outside operation place) = codes "outside: " ++ operation_name operation ++ codes " " ++ place
breach_words Missing_right = codes "missing right"
breach_words Capability_mode = codes "capability mode"

-- The last line. The detail stands behind the words, as `: FSTAT of descriptor 3`. It may be any text: what is claimed of the run is in
-- the words alone.
abbrev pub breach_text : Breach → List ℕ → List ℕ
breach_text breach detail = breach_words breach ++ detail ++ codes "\n"

abbrev pub run_text : Plan → List Event → Breach → List ℕ → List (Option Acted) → List ℕ
run_text plan events breach detail lines = schedule_part events ++ (trace_text plan events lines ++ breach_text breach detail)

-- The task has a run of these events, and what was taken is the text of every one, with this detail.
pub record WritesDetailed (plan : Plan) (events : List Event) (breach : Breach) (detail : List ℕ) (before after : Option (List ℕ)) : Type 0 where
  pub lines : List (Option Acted)
  pub run : IsRun plan events lines
  pub every : (others : List (Option Acted)) → IsRun plan events others → Took before after (run_text plan events breach detail others)

-- so with some detail
abbrev pub WritesRun : Plan → List Event → Breach → Option (List ℕ) → Option (List ℕ) → Type 0
WritesRun plan events breach before after = (detail : List ℕ) × WritesDetailed plan events breach detail before after

-- What was taken is a beginning of the text of every run of these events, with this detail.
abbrev pub WritesFrontDetailed : Plan → List Event → Breach → List ℕ → Option (List ℕ) → Option (List ℕ) → Type 0
WritesFrontDetailed plan events breach detail before after =
    (lines : List (Option Acted)) → IsRun plan events lines → TookFront before after (run_text plan events breach detail lines)
