-- What the program has written when it says that it is done.
use Rattle.std.specs.Prelude.{◌≡◌, ◌⊎◌, ℕ, true, List, Option}
use Rattle.command_line.specs.Orders.{Order, Example, Run, Check, Report, Search, Expand, AsksFor}
use Rattle.task.specs.Confined.{IsConfined}
use Rattle.task.specs.Plans.{Plan, none_marked}
use Rattle.task.specs.Sandboxed.{IsSandboxed}
use Rattle.certificate_text.specs.Readings.{certificate_of_text}
use Rattle.simulator.specs.Schedules.{schedule_of}
use Rattle.simulator.specs.Simulations.{WritesTrace}
use Rattle.commands.specs.Examples.{example_events, first_plan}
use Rattle.commands.specs.Expanded.{Expands}
use Rattle.console.specs.Files.{Files, IsTask, OfFiles}
use Rattle.commands.specs.Judged.{Judges, verdict_text}
use Rattle.commands.specs.Reports.{answer_text}
use Rattle.commands.specs.Searched.{Searches}

-- The example writes its trace, and `run` that of a task over the events of a schedule; `check` writes a verdict, `report` a
-- report or a no, and `search` a certificate or that it found none, and their status is 0 or 1; `expand` writes an expansion.
abbrev pub DoesOrder : Files → Order → ℕ → Option (List ℕ) → Option (List ℕ) → Type 0
DoesOrder files Example status before after = (status ≡ 0) × WritesTrace first_plan example_events before after
DoesOrder files (Run task schedule) status before after =
    (status ≡ 0) × OfFiles files task schedule schedule_of (λ plan events. WritesTrace plan events before after)
DoesOrder files (Check task certificate) status before after =
    OfFiles files task certificate certificate_of_text (λ plan bounds. Judges plan bounds (verdict_text plan) status before after)
DoesOrder files (Report task certificate) status before after =
    OfFiles files task certificate certificate_of_text (λ plan bounds. Judges plan bounds (answer_text plan bounds) status before after)
DoesOrder files (Search task) status before after = (plan : Plan) × IsTask files task plan × Searches plan status before after
DoesOrder files (Expand task certificate) status before after =
    (status ≡ 0) × OfFiles files task certificate certificate_of_text (λ plan bounds. Expands plan bounds before after)

-- The words ask for something, and it is done.
pub record Serves (files : Files) (words : List (List ℕ)) (status : ℕ) (before after : Option (List ℕ)) : Type 0 where
  pub order : Order
  pub asked : AsksFor words order
  pub done : DoesOrder files order status before after

-- The words ask for a verdict on these files, or for a report that is written where the verdict is yes.
abbrev pub AsksForVerdict : List (List ℕ) → List ℕ → List ℕ → Type 0
AsksForVerdict words task certificate = AsksFor words (Check task certificate) ⊎ AsksFor words (Report task certificate)

-- The text of the file is a task's, every run of which is confined, and sandboxed if no program of it is marked.
pub record StaysInside (files : Files) (task : List ℕ) : Type 0 where
  pub plan : Plan
  pub is_task : IsTask files task plan
  pub confined : IsConfined plan
  pub sandboxed : none_marked plan ≡ true → IsSandboxed plan
