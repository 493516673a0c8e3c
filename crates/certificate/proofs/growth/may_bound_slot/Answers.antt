use Rattle.std.proofs.Common.{sym, ◌∙◌}
use Rattle.certificate.specs.Bounds.{PointBound}
use Rattle.certificate.specs.Lines.{is_closed}
use Rattle.certificate.specs.Growth.{all_from, may_bound_slot}
use Rattle.certificate.specs.Views.{point_of}
use Rattle.certificate.proofs.Last.{at_last, at_none, may_bound_slot-last, may_bound_slot-none}
use Rattle.certificate.proofs.growth.may_bound_slot.Goals as goal

pub returns-in-None : goal.returns-in-None
returns-in-None c =
    let n = c.args.number in
    sym (at_none point_of (λ points. may_bound_slot points n) c.args.points.now c.in-None.ensures.cases ∙ may_bound_slot-none n)

pub returns-in-Some : goal.returns-in-Some
returns-in-Some c =
    let n = c.args.number in
    c.is_closed_from.ensures
    ∙ sym (at_last point_of (λ points. may_bound_slot points n) (λ (b : PointBound). all_from is_closed n b.bound.slots)
    (may_bound_slot-last n) c.args.points.now _ c.in-Some.last.now c.in-Some.ensures.cases.0)
