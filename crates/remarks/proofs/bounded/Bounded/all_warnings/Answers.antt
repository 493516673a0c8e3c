use Rattle.instruction_set.specs.Views.{code_of}
use Rattle.remarks.specs.RemarkViews.{bounds_of, warned_of}
use Rattle.remarks.specs.Warnings.{warned_at}
use Rattle.remarks.proofs.Lists.{one_more}
use Rattle.remarks.proofs.bounded.Bounded.all_warnings.Goals as goal

pub loop-point-preserved : goal.loop-point-preserved
loop-point-preserved c =
    let bounded = c.args.self.now in
    one_more warned_of (warned_at c.args.task.now bounded.name.now (code_of bounded.code.now) (bounds_of bounded.bounds.items) bounded.untrusted) c.loop-point.list.items
    c.push.new.self.items c.in_ok-warnings_at.field-0 c.loop-point.point c.in_ok-push.ensures.items c.loop-point.invariant c.in_ok-warnings_at.ensures
