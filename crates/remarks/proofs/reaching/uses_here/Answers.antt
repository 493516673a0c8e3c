use Rattle.certificate.specs.Views.{target_of}
use Rattle.instruction_set.specs.Views.{code_of}
use Rattle.remarks.specs.RemarkViews.{bounds_of, uses_seen}
use Rattle.remarks.specs.Uses.{uses_on}
use Rattle.remarks.proofs.Lists.{one_more}
use Rattle.remarks.proofs.reaching.uses_here.Goals as goal

pub loop-point-preserved : goal.loop-point-preserved
loop-point-preserved c =
    one_more uses_seen
    (uses_on (code_of c.args.code.now) (bounds_of c.args.bounds.now) (target_of c.args.target.now))
    c.loop-point.uses.items c.push.new.self.items c.uses_on.result
    c.loop-point.point c.in_ok-push.ensures.items c.loop-point.invariant c.uses_on.ensures
