use Rattle.std.proofs.Common.{ap, inr, subst, Err}
use Rattle.std.specs.Prelude.{None}
use Rattle.simulator.specs.Simulations.{WritesFront}
use Rattle.task.specs.Plans.{Plan}
use Rattle.command_line.specs.Orders.{Example}
use Rattle.commands.specs.Examples.{example_events}
use Rattle.commands.proofs.Begun.{example-begun, stopped}
use Rattle.commands.proofs.serving.example.Goals as goal

pub returns-in_err-simulate-clause-fails : goal.returns-in_err-simulate-clause-fails
returns-in_err-simulate-clause-fails g c =
    let stop = c.in_err-simulate.field-0.0 in
    let before = g.W.Out.taken c.args.out.now in
    let after = g.W.Out.taken c.simulate.new.out in
    let begun = example-begun before after (subst (λ (plan : Plan). WritesFront plan example_events before after) c.in_ok-task.ensures c.in_err-simulate.ensures.err) in
    stopped None Example before after (g.W.Out.faults c.args.out.now) (g.W.Out.faults c.simulate.new.out) _ stop c.from_residual-in_err-simulate.ensures
    (λ is. c.in_err-simulate.ensures.device (ap Err is)) (λ is. begun) (λ is. inr begun) (λ is. c.in_err-simulate.ensures.not_spent (ap Err is))
