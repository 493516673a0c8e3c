use Rattle.instruction_set.specs.Views.{code_of}
use Rattle.remarks.specs.Listed.{limits_at}
use Rattle.remarks.specs.RemarkViews.{bounds_of}
use Rattle.remarks.proofs.Listing.{adds_one_more}
use Rattle.remarks.proofs.bounded.Bounded.add_limits.Goals as goal

pub loop-point-preserved : goal.loop-point-preserved
loop-point-preserved c =
    adds_one_more (limits_at (code_of c.args.self.now.code.now) (bounds_of c.args.self.now.bounds.items) c.args.number c.args.unnamed.now)
    c.loop-point.point c.args.list.now.items c.loop-point.list.items c.add_limits_at.new.list.items
    c.loop-point.invariant c.in_ok-add_limits_at.ensures
