use Rattle.std.proofs.Common.{◌-◌, ap, sym, ◌∙◌, arith, length}
use Rattle.std.proofs.Math.Seq.{map-set_same}
use Rattle.std.proofs.lemmas.List.{nil_from_length}
use Rattle.certificate.specs.Bounds.{Bound, PointBound, with_slot}
use Rattle.certificate.specs.Growth.{on_last}
use Rattle.certificate.specs.Views.{slot_of, point_of, points_of}
use Rattle.certificate.proofs.Last.{last_set, on_last-none}
use Rattle.certificate.proofs.Outcomes.{on_err, on_ok}
use Rattle.certificate.proofs.growth.bound_slot.Goals as goal

pub returns-in-Some-clause-ok : goal.returns-in-Some-clause-ok
returns-in-Some-clause-ok c =
    let f = λ (b : Bound). with_slot b c.args.number (slot_of c.args.slot) in
    let found = c.in-Some.ensures.item in
    let seen = ap (λ (p : PointBound). record p { bound = f p.bound }) (ap point_of found.1) in
    on_ok c.bound_slot.result _ _ (λ is. last_set f c.args.points.now c.in-Some.last.now _ found.3.0 (is ∙ seen)) c.bound_slot.ensures.ok

pub returns-in-Some-clause-err : goal.returns-in-Some-clause-err
returns-in-Some-clause-err c =
    let points = c.args.points.now in
    let seen = ap point_of c.in-Some.ensures.item.1 in
    on_err c.bound_slot.result _ _ (λ is. map-set_same point_of points (length points - 1) _ c.in-Some.last.now (is ∙ seen)) c.bound_slot.ensures.err

pub returns-in-None-clause-ok : goal.returns-in-None-clause-ok
returns-in-None-clause-ok c =
    let f = λ (b : Bound). with_slot b c.args.number (slot_of c.args.slot) in
    let none = nil_from_length c.args.points.now (omega (arith, c.in-None.ensures.item.3)) in
    ap points_of none ∙ sym (ap (λ points. on_last f (points_of points)) none ∙ on_last-none f)
