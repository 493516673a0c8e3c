use Rattle.std.proofs.Common.{◌≡◌, ◌+◌, ◌/◌, true, length, ap, sym, ◌∙◌, subst, refl, arith}
use Rattle.std.proofs.lemmas.Bool.{eqb-true}
use Rattle.std.proofs.lemmas.List.{length-drop, length-take, nil_from_length, take_rest}
use Rattle.certificate.specs.Bounds.{bound_in}
use Rattle.certificate.specs.Rising.{places_of, rises}
use Rattle.certificate.specs.Views.{points_of}
use Rattle.certificate.proofs.Halves.{halves}
use Rattle.certificate.proofs.certs.+point_among.Goals as goal

pub returns-then-is_empty : goal.returns-then-is_empty
unfolding bound_in
returns-then-is_empty t c =
    let none = nil_from_length c.args.points.now (eqb-true _ _ (sym c.is_empty.ensures ∙ c.if-is_empty.true)) in
    rw none refl

pub point_among-requires : goal.point_among-requires
point_among-requires t c =
    let points = c.args.points.now in
    let middle = length points / 2 in
    let rest = take_rest points (middle + 1) in
    let split = halves points c.index-points-middle.result (c.args.program.now, c.args.point) (sym c.is_empty.ensures ∙ c.if-is_empty.false) c.index-points-middle.is c.requires in
    let shorter = length-drop (middle + 1) points in
    (omega (arith, split.within, shorter, ap length rest, c.decreases), subst (λ points. rises (places_of (points_of points)) ≡ true) (sym rest) split.back)

pub point_among-requires-in-Greater : goal.point_among-requires-in-Greater
point_among-requires-in-Greater t c =
    let points = c.args.points.now in
    let middle = length points / 2 in
    let split = halves points c.index-points-middle.result (c.args.program.now, c.args.point) (sym c.is_empty.ensures ∙ c.if-is_empty.false) c.index-points-middle.is c.requires in
    let shorter = length-take middle points in
    (omega (arith, split.within, shorter, c.decreases), split.front)

pub returns-in-Less : goal.returns-in-Less
returns-in-Less t c =
    let points = c.args.points.now in
    let middle = length points / 2 in
    let split = halves points c.index-points-middle.result (c.args.program.now, c.args.point) (sym c.is_empty.ensures ∙ c.if-is_empty.false) c.index-points-middle.is c.requires in
    let rest = take_rest points (middle + 1) in
    c.point_among.ensures ∙ ap (λ points. bound_in (points_of points) c.args.program.now c.args.point) rest ∙ sym (split.less (sym c.in-Less.ensures))

pub returns-in-Equal : goal.returns-in-Equal
returns-in-Equal t c =
    let points = c.args.points.now in
    let split = halves points c.index-points-middle.result (c.args.program.now, c.args.point) (sym c.is_empty.ensures ∙ c.if-is_empty.false) c.index-points-middle.is c.requires in
    sym (split.equal (sym c.in-Equal.ensures))

pub returns-in-Greater : goal.returns-in-Greater
returns-in-Greater t c =
    let points = c.args.points.now in
    let split = halves points c.index-points-middle.result (c.args.program.now, c.args.point) (sym c.is_empty.ensures ∙ c.if-is_empty.false) c.index-points-middle.is c.requires in
    c.point_among-in-Greater.ensures ∙ sym (split.greater (sym c.in-Greater.ensures))
