use Rattle.std.proofs.Common.{ap, sym, ◌∙◌, arith}
use Rattle.std.proofs.lemmas.List.{nil_from_length}
use Rattle.certificate.specs.Bounds.{Bound, PointBound, with_interval}
use Rattle.certificate.specs.Growth.{on_last}
use Rattle.certificate.specs.Views.{interval_of, point_of, points_of}
use Rattle.certificate.proofs.Last.{last_set, on_last-none}
use Rattle.certificate.proofs.growth.bound_register.Goals as goal

pub returns-in-Some : goal.returns-in-Some
returns-in-Some c =
    let f = λ (b : Bound). with_interval b c.args.register (interval_of c.args.interval) in
    let found = c.in-Some.ensures.item in
    let bounded = c.bound_register.ensures ∙ ap (λ (p : PointBound). record p { bound = f p.bound }) (ap point_of found.1) in
    last_set f c.args.points.now c.in-Some.last.now _ found.3.0 bounded

pub returns-in_default : goal.returns-in_default
returns-in_default c =
    let f = λ (b : Bound). with_interval b c.args.register (interval_of c.args.interval) in
    let found = c.in_default.ensures.item in
    let none = nil_from_length c.args.points.now (omega (arith, found.3)) in
    ap points_of none ∙ sym (ap (λ points. on_last f (points_of points)) none ∙ on_last-none f)
