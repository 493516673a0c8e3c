use Rattle.instruction_set.specs.Views.{code_of}
use Rattle.remarks.specs.Listed.{never_open_at}
use Rattle.remarks.specs.RemarkViews.{bounds_of}
use Rattle.remarks.proofs.Listing.{adds_one_more}
use Rattle.remarks.proofs.bounded.Bounded.add_all_closed.Goals as goal

pub loop-point-preserved : goal.loop-point-preserved
loop-point-preserved c =
    adds_one_more (never_open_at (code_of c.args.self.now.code.now) (bounds_of c.args.self.now.bounds.items))
    c.loop-point.point c.args.list.now.items c.loop-point.list.items c.add_closed.new.list.items
    c.loop-point.invariant c.in_ok-add_closed.ensures
