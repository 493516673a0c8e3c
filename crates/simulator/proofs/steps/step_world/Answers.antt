use Rattle.std.proofs.Common.{subst, sym}
use Rattle.syscalls.specs.Views.{event_of, world_of}
use Rattle.task.specs.Plans.{programs_of_plan}
use Rattle.simulator.specs.Lines.{Line}
use Rattle.simulator.specs.Steps.{StepsMachine}
use Rattle.simulator.proofs.Doing.{if_ok_so}
use Rattle.simulator.proofs.steps.step_world.Goals as goal

pub returns-clause-step : goal.returns-clause-step
returns-clause-step g c =
    let w = world_of g.T.Tree.nodes c.args.world.now in
    let v = world_of g.T.Tree.nodes c.advance.new.world in
    if_ok_so c.line_written.result _ _ (λ line is. subst (λ (told : Line). StepsMachine (programs_of_plan c.args.task.now) w (event_of c.args.event) told v) (sym is)
    c.in_ok-stepped.ensures.step) c.line_written.ensures
