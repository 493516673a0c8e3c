use Rattle.std.specs.List.{range_with_len}
use Rattle.explain.specs.Listing.{InOrder, TellsPoint}
use Rattle.explain.specs.ListingViews.{AddsSome}
use Rattle.explain.proofs.listing.add_points.Given as goal

-- the points before are told
abbrev pub invariant-loop-point : goal.invariant-loop-point
invariant-loop-point l = AddsSome (InOrder TellsPoint (range_with_len 0 l.point)) l.fn.page l.page
