use Rattle.std.proofs.Common.{map}
use Rattle.instruction_set.specs.Views.{code_of}
use Rattle.remarks.specs.RemarkViews.{uses_seen}
use Rattle.remarks.specs.Uses.{uses_later}
use Rattle.remarks.proofs.Lists.{one_more}
use Rattle.remarks.proofs.reaching.or_later.Goals as goal

pub loop-point-preserved : goal.loop-point-preserved
loop-point-preserved c =
    one_more uses_seen (uses_later (code_of c.args.code.now) (map uses_seen c.args.uses.now)) c.loop-point.later.items c.push.new.self.items
    c.uses_later.result c.loop-point.point c.in_ok-push.ensures.items c.loop-point.invariant c.uses_later.ensures
