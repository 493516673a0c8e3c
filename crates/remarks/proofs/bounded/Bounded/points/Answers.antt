use Rattle.std.proofs.Common.{◌++◌, ◌∙◌, ◌∷◌, [], ap, sym}
use Rattle.remarks.proofs.Listing.{range_more}
use Rattle.remarks.proofs.bounded.Bounded.points.Goals as goal

pub loop-point-preserved : goal.loop-point-preserved
loop-point-preserved c =
    c.in_ok-push.ensures.items ∙ ap (λ list. list ++ c.loop-point.point ∷ []) c.loop-point.invariant ∙ sym (range_more c.loop-point.point)
