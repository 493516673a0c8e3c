use Rattle.instruction_set.specs.Views.{code_of}
use Rattle.remarks.specs.Ways.{comes_to}
use Rattle.remarks.proofs.Lists.{one_flag_more}
use Rattle.remarks.proofs.ways.reached.Goals as goal

pub loop-point-preserved : goal.loop-point-preserved
loop-point-preserved c =
    one_flag_more (comes_to (code_of c.args.code.now)) c.loop-point.found.items c.push.new.self.items c.in_ok-comes_to.field-0
    c.loop-point.point c.in_ok-push.ensures.items c.loop-point.invariant c.in_ok-comes_to.ensures
