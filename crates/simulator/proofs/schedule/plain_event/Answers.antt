use Rattle.simulator.proofs.PlainEvents.{plain-event}
use Rattle.simulator.proofs.schedule.plain_event.Goals as goal

pub returns : goal.returns
returns c =
    plain-event c.args.text.now c.in_ok-process.rest.now c.in_ok-input.rest.now c.in_ok-process.process c.in_ok-input.input
    c.in_ok-process.ensures c.in_ok-input.ensures c.if-process.false (rw c.from.ensures at c.if-input-from.false)
