use Rattle.task.specs.Plans.{programs_of_plan}
use Rattle.simulator.specs.Machines.{machine_world}
use Rattle.explore.proofs.MayDo.{may-stand}
use Rattle.explore.proofs.breaking.step_by.Goals as goal

pub returns-then-not-may_stand_at-clause-memory : goal.returns-then-not-may_stand_at-clause-memory
returns-then-not-may_stand_at-clause-memory g c = λ runs good.
    let m = c.args.machine.now in
    let stands = may-stand (programs_of_plan m.plan) (machine_world m) c.args.next.now.event.process good in
    let result_is = c.may_stand_at.ensures in
    let not_is = c.if-not-may_stand_at.ensures in
    let taken = c.if-not-may_stand_at.true in
    absurd cc
