-- A machine as a value.
use Rattle.std.specs.Prelude.{◌≡◌, Bool, true, false, List}
use Rattle.process.specs.State.{ProcessState}
use Rattle.file_tree.specs.Nodes.{Node}
use Rattle.fd_table.specs.Kept.{Kept, open_files}
use Rattle.kernel.specs.World.{World}
use Rattle.kernel.specs.WellFormed.{IsWellFormed}
use Rattle.syscalls.specs.Views.{world_with}
use Rattle.task.specs.Plans.{Plan, programs_of_plan}
use Rattle.task.specs.Limits.{is_plan}

-- its task, its world as it is kept, and whether it stopped for want of memory
pub record MachineState : Type 0 where
  pub plan : Plan
  pub tree : List Node
  pub files : Kept
  pub processes : List ProcessState
  pub spent : Bool

abbrev pub machine_world : MachineState → World
machine_world d = world_with d.tree (open_files d.files) d.processes

-- The task is valid, and the world is well formed until the machine stops.
pub record IsRunning (d : MachineState) : Type 0 where
  pub valid : is_plan d.plan ≡ true
  pub good : d.spent ≡ false → IsWellFormed (programs_of_plan d.plan) (machine_world d)
