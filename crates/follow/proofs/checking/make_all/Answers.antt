use Rattle.std.proofs.Common.{◌≡◌, true, subst}
use Rattle.kernel.specs.WellFormed.{IsWellFormed}
use Rattle.task.specs.Limits.{is_plan}
use Rattle.task.specs.Plans.{Plan, programs_of_plan}
use Rattle.simulator.specs.Machines.{machine_world}
use Rattle.follow.proofs.checking.make_all.Goals as goal

pub make_moves-requires : goal.make_moves-requires
make_moves-requires c =
    let plan : Plan = c.args.setting.now.task.now in
    let same : c.in_ok-machine.machine.plan ≡ plan = c.in_ok-machine.ensures.plan in
    record {
      runs_on = c.in_ok-machine.ensures.runs_on;
      plan = same;
      valid = subst (λ (p : Plan). is_plan p ≡ true) same c.in_ok-machine.ensures.valid;
      well_formed = subst (λ (p : Plan). IsWellFormed (programs_of_plan p) (machine_world c.in_ok-machine.machine)) same c.in_ok-machine.ensures.well_formed;
      world = c.in_ok-machine.ensures.world;
    }
