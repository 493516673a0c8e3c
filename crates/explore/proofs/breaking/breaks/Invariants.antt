use Rattle.std.proofs.Common.{◌≡◌, drop, take, map, true, false, option_map}
use Rattle.kernel.specs.Answers.{AreEvents}
use Rattle.kernel.specs.WellFormed.{IsWellFormed}
use Rattle.task.specs.Limits.{is_plan}
use Rattle.task.specs.Plans.{programs_of_plan}
use Rattle.simulator.specs.Machines.{machine_world}
use Rattle.explore.specs.BreachViews.{breach_of}
use Rattle.explore.specs.MoveViews.{event_at, move_of}
use Rattle.explore.proofs.Watching.{Leads}
use Rattle.explore.proofs.breaking.breaks.Given as goal

-- what the last step broke, and the machine is where the moves so far lead to
abbrev pub invariant-loop-next : goal.invariant-loop-next
invariant-loop-next l = record {
  runs_on : l.machine.spent ≡ false;
  plan : l.machine.plan ≡ l.task;
  valid : is_plan l.task ≡ true;
  well_formed : IsWellFormed (programs_of_plan l.task) (machine_world l.machine);
  bytes : AreEvents (take l.next-index (map event_at l.moves));
  leads : Leads l.task (map move_of l.moves) (machine_world l.machine) (option_map breach_of l.breach) (map move_of (drop l.next-index l.moves));
}
