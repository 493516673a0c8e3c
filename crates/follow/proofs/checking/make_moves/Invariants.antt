use Rattle.std.proofs.Common.{◌≡◌, drop, true, false, Some}
use Rattle.kernel.specs.Answers.{AreEvents}
use Rattle.kernel.specs.WellFormed.{IsWellFormed}
use Rattle.task.specs.Limits.{is_plan}
use Rattle.task.specs.Plans.{programs_of_plan}
use Rattle.simulator.specs.Machines.{machine_world}
use Rattle.follow.specs.Shows.{events_of}
use Rattle.follow.specs.Views.{moves_of, setting_of, progress_of}
use Rattle.follow.proofs.Watching.{Leads}
use Rattle.follow.proofs.checking.make_moves.Given as goal

-- the machine and the progress are where the moves so far lead to
abbrev pub invariant-loop-step : goal.invariant-loop-step
invariant-loop-step l = record {
  runs_on : l.machine.spent ≡ false;
  plan : l.machine.plan ≡ l.setting.task.now;
  valid : is_plan l.setting.task.now ≡ true;
  well_formed : IsWellFormed (programs_of_plan l.setting.task.now) (machine_world l.machine);
  bytes : AreEvents (events_of (moves_of (drop l.step-index l.moves))) → AreEvents (events_of (moves_of l.moves));
  leads :
      Leads (setting_of l.setting) (Some (progress_of l.fn.progress)) (moves_of l.moves)
      (machine_world l.machine) (progress_of l.progress) (moves_of (drop l.step-index l.moves));
}
