use Rattle.std.proofs.Common.{rules, ap, inr, map, subst, Err}
use Rattle.std.specs.Prelude.{List, Ok}
use Rattle.simulator.specs.Schedules.{schedule_of}
use Rattle.simulator.specs.Simulations.{WritesFront}
use Rattle.syscalls.specs.declared.events.Event.{Event as EventCode}
use Rattle.syscalls.specs.Views.{event_of}
use Rattle.command_line.specs.Orders.{Run}
use Rattle.console.specs.Files.{IsRead, IsTask}
use Rattle.commands.proofs.Begun.{run-begun, stopped}
use Rattle.commands.proofs.serving.run.Goals as goal

pub returns-in_err-simulate-clause-fails : goal.returns-in_err-simulate-clause-fails
returns-in_err-simulate-clause-fails g c =
    let stop = c.in_err-simulate.field-0.0 in
    let files = g.S.Source.files c.args.files.now in
    let before = g.W.Out.taken c.args.out.now in
    let after = g.W.Out.taken c.simulate.new.out in
    let plan = c.in_ok-plan.plan in
    let events = map event_of c.in_ok-events.events.items in
    let is_task : IsTask files c.args.task.now plan = search rules in
    let is_schedule : IsRead files c.args.schedule.now schedule_of (Ok events) = search rules in
    let front : WritesFront plan events before after =
    subst (λ (events : List EventCode). WritesFront plan (map event_of events) before after) c.deref-3.ensures.value c.in_err-simulate.ensures.err in
    let begun = run-begun files c.args.task.now c.args.schedule.now plan events before after is_task is_schedule front in
    stopped files (Run c.args.task.now c.args.schedule.now) before after (g.W.Out.faults c.args.out.now) (g.W.Out.faults c.simulate.new.out)
    _ stop c.from_residual-in_err-simulate.ensures
    (λ is. c.in_err-simulate.ensures.device (ap Err is)) (λ is. begun) (λ is. inr begun) (λ is. c.in_err-simulate.ensures.not_spent (ap Err is))
