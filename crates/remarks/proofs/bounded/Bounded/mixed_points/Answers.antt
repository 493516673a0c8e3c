use Rattle.instruction_set.specs.Views.{code_of}
use Rattle.remarks.specs.Marked.{is_mixed_at}
use Rattle.remarks.specs.RemarkViews.{bounds_of}
use Rattle.remarks.proofs.Lists.{one_flag_more}
use Rattle.remarks.proofs.bounded.Bounded.mixed_points.Goals as goal

pub loop-point-preserved : goal.loop-point-preserved
loop-point-preserved c =
    let bounded = c.args.self.now in
    one_flag_more (is_mixed_at (code_of bounded.code.now) (bounds_of bounded.bounds.items)) c.loop-point.mixed.items c.push.new.self.items c.in_ok-is_mixed_at.field-0
    c.loop-point.point c.in_ok-push.ensures.items c.loop-point.invariant c.in_ok-is_mixed_at.ensures
