-- What the code's reading of a schedule comes to.
use Rattle.std.specs.Prelude.{◌≡◌, ℕ, List, map, Result, Ok, Err}
use Rattle.std.specs.declared.vec.Vec.{Vec}
use Rattle.std.specs.declared.alloc.Global.{Global}
use Rattle.syscalls.specs.declared.events.Event.{Event as EventCode}
use Rattle.simulator.specs.declared.schedule.ScheduleFault.{ScheduleFault}
use Rattle.simulator.specs.declared.schedule.ScheduleFault.TheVariants.{Line, Limit, Memory}
use Rattle.kernel.specs.Answers.{Event}
use Rattle.simulator.specs.Schedules.{Fault, Faulty, Too_many}
use Rattle.syscalls.specs.Views.{event_of}

abbrev pub fault_number : ScheduleFault → ℕ
fault_number (Line n) = 1
fault_number Limit = 2
fault_number Memory = 3

-- What is read is what the text stands for, or its fault, want of memory aside.
abbrev pub ReadsSchedule : Result (Vec EventCode Global) ScheduleFault → Result (List Event) Fault → Type 0
ReadsSchedule (Ok events) schedule = schedule ≡ Ok (map event_of events.items)
ReadsSchedule (Err (Line n)) schedule = schedule ≡ Err (Faulty n)
ReadsSchedule (Err Limit) schedule = schedule ≡ Err Too_many
ReadsSchedule (Err Memory) schedule = Unit {0}
