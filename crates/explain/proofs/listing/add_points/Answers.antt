use Rattle.explain.specs.Listing.{TellsPoint}
use Rattle.explain.proofs.Writing.{none_written, number_written}
use Rattle.explain.proofs.listing.add_points.Goals as goal

pub loop-point-init : goal.loop-point-init
loop-point-init c = none_written TellsPoint c.args.page.now

pub loop-point-preserved : goal.loop-point-preserved
loop-point-preserved c = number_written TellsPoint c.args.page.now c.loop-point.page c.add_point.new.page c.loop-point.point c.loop-point.invariant c.add_point.ensures
