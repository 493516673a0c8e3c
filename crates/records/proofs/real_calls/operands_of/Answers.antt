use Rattle.records.proofs.Within.{operand-added}
use Rattle.records.proofs.real_calls.operands_of.Goals as goal

pub loop-one-preserved : goal.loop-one-preserved
loop-one-preserved c =
    operand-added c.args.given.now c.loop-one.one-index c.one-item.result c.loop-one.operands.items c.push.new.self.items c.in_ok-operand_of.field-0
    c.loop-one-test.true c.one-item.is c.loop-one.invariant c.in_ok-push.ensures.items c.in_ok-operand_of.ensures.kind c.in_ok-operand_of.ensures.within
