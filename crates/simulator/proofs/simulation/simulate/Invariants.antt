use Rattle.std.proofs.Common.{◌≡◌, [], drop, take, map, true, false}
use Rattle.kernel.specs.Answers.{AreEvents}
use Rattle.kernel.specs.WellFormed.{IsWellFormed}
use Rattle.syscalls.specs.Views.{event_of}
use Rattle.task.specs.Limits.{is_plan}
use Rattle.task.specs.Plans.{programs_of_plan}
use Rattle.simulator.specs.Machines.{machine_world}
use Rattle.simulator.proofs.Tracing.{IsTraced}
use Rattle.simulator.proofs.simulation.simulate.Given as goal

-- the lines so far are written or gathered, and the machine is where they lead
abbrev pub invariant-loop-event : goal.invariant-loop-event
invariant-loop-event g l = record {
  runs_on : l.machine.spent ≡ false;
  steady : g.W.Out.faults l.out ≡ g.W.Out.faults l.fn.out;
  plan : l.machine.plan ≡ l.task;
  valid : is_plan l.task ≡ true;
  well_formed : IsWellFormed (programs_of_plan l.task) (machine_world l.machine);
  bytes : AreEvents (take l.event-index (map event_of l.events));
  ended : l.page.line ≡ [];
  traced : IsTraced l.task (map event_of l.events) (g.W.Out.taken l.fn.out) (g.W.Out.taken l.out) l.page.lines (machine_world l.machine)
      (map event_of (drop l.event-index l.events));
}
