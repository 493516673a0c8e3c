-- When the program has which fault. (own)
use Rattle.std.specs.Prelude.{◌≡◌, ◌<◌, ◌⊎◌, ℕ, List, Option, Err, codes}
use Rattle.command_line.specs.Orders.{Order, Example, Run, Check, Report, Search, Expand, AsksFor}
use Rattle.task.specs.Plans.{Plan}
use Rattle.task_reader.specs.Reading.{Mistake, task_of}
use Rattle.certificate_text.specs.Readings.{certificate_of_text}
use Rattle.simulator.specs.Schedules.{schedule_of}
use Rattle.commands.specs.Begun.{HasBegun}
use Rattle.console.specs.Faults.{Fault, Refusal, Wrong_words, No_file, No_task, No_schedule, No_certificate, Refused, No_memory, No_output}
use Rattle.console.specs.Told.{IsTold}
use Rattle.console.specs.Files.{Files, IsMissing, IsRead, IsTask, IsFileThere}
use Rattle.commands.specs.Served.{DoesOrder}

-- Of two files this one isn't there. Both are fetched before either text is read, in this order.
abbrev pub LacksOne : Files → List ℕ → List ℕ → List ℕ → Type 0
LacksOne files first second name =
    ((name ≡ first) × IsMissing files first) ⊎ ((name ≡ second) × IsFileThere files first × IsMissing files second)

-- Both are there, and the first is no task.
abbrev pub HasNoTask : Files → List ℕ → List ℕ → Mistake → Type 0
HasNoTask files task second mistake = IsRead files task task_of (Err mistake) × IsFileThere files second

-- A run of these files is refused so.
abbrev pub IsRunRefused : Files → List ℕ → List ℕ → Refusal → Type 0
IsRunRefused files task schedule Wrong_words = ⊥
IsRunRefused files task schedule (No_file name) = LacksOne files task schedule name
IsRunRefused files task schedule (No_task mistake) = HasNoTask files task schedule mistake
IsRunRefused files task schedule (No_schedule fault) =
    (plan : Plan) × IsTask files task plan × IsRead files schedule schedule_of (Err fault)
IsRunRefused files task schedule (No_certificate why) = ⊥

-- A check of these files, a report on them, or an expansion, is refused so.
abbrev pub IsCheckRefused : Files → List ℕ → List ℕ → Refusal → Type 0
IsCheckRefused files task certificate Wrong_words = ⊥
IsCheckRefused files task certificate (No_file name) = LacksOne files task certificate name
IsCheckRefused files task certificate (No_task mistake) = HasNoTask files task certificate mistake
IsCheckRefused files task certificate (No_schedule fault) = ⊥
IsCheckRefused files task certificate (No_certificate why) =
    (plan : Plan) × IsTask files task plan × IsRead files certificate certificate_of_text (Err why)

-- A search for this file is refused so.
abbrev pub IsSearchRefused : Files → List ℕ → Refusal → Type 0
IsSearchRefused files task Wrong_words = ⊥
IsSearchRefused files task (No_file name) = (name ≡ task) × IsMissing files task
IsSearchRefused files task (No_task mistake) = IsRead files task task_of (Err mistake)
IsSearchRefused files task (No_schedule fault) = ⊥
IsSearchRefused files task (No_certificate why) = ⊥

abbrev pub IsRefused : Files → Order → Refusal → Type 0
IsRefused files Example refusal = ⊥
IsRefused files (Run task schedule) refusal = IsRunRefused files task schedule refusal
IsRefused files (Check task certificate) refusal = IsCheckRefused files task certificate refusal
IsRefused files (Report task certificate) refusal = IsCheckRefused files task certificate refusal
IsRefused files (Search task) refusal = IsSearchRefused files task refusal
IsRefused files (Expand task certificate) refusal = IsCheckRefused files task certificate refusal

-- There was no memory for that: nothing was written, but of a trace a beginning may have been.
abbrev pub LacksMemory : Files → Order → Option (List ℕ) → Option (List ℕ) → Type 0
LacksMemory files Example before after = (after ≡ before) ⊎ HasBegun (DoesOrder files Example) before after
LacksMemory files (Run task schedule) before after = (after ≡ before) ⊎ HasBegun (DoesOrder files (Run task schedule)) before after
LacksMemory files (Check task certificate) before after = after ≡ before
LacksMemory files (Report task certificate) before after = after ≡ before
LacksMemory files (Search task) before after = after ≡ before
LacksMemory files (Expand task certificate) before after = after ≡ before

-- What is asked for isn't done, for that fault. Where it is refused nothing was written. The output fails only where the writer
-- did, which took a beginning of what is written where it is done. `before` and `after` are what the output had taken,
-- `failures` and `failed` how often it had failed.
abbrev pub Fails : Files → Order → Option (List ℕ) → Option (List ℕ) → ℕ → ℕ → Fault → Type 0
Fails files order before after failures failed (Refused refusal) = (after ≡ before) × IsRefused files order refusal
Fails files order before after failures failed No_memory = LacksMemory files order before after
Fails files order before after failures failed No_output = (failures < failed) × HasBegun (DoesOrder files order) before after

-- What the words ask for isn't done; or they are no line of the program; or there was no memory to read them. Where they aren't
-- read nothing was written.
pub data WordsFail (files : Files) (words : List (List ℕ)) (before after : Option (List ℕ)) (failures failed : ℕ) : Fault → Type 0 where
  asked_for : {fault : Fault} (order : Order) → AsksFor words order → Fails files order before after failures failed fault → WordsFail files words before after failures failed fault
  not_asked : ((order : Order) → AsksFor words order → ⊥) → after ≡ before → WordsFail files words before after failures failed (Refused Wrong_words)
  unread : after ≡ before → WordsFail files words before after failures failed No_memory

-- There is a fault, and it was told.
pub record RefusesWords (files : Files) (words : List (List ℕ)) (status : ℕ)
    (before after : Option (List ℕ)) (failures failed : ℕ)
    (told_before told_after : Option (List ℕ)) (told_failures told_failed : ℕ) : Type 0 where
  pub fault : Fault
  pub fails : WordsFail files words before after failures failed fault
  pub told : IsTold (codes "capcheck") fault status told_before told_after told_failures told_failed
