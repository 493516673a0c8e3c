use Rattle.std.proofs.Common.{ap, sym, ◌∙◌}
use Rattle.std.specs.Ordering.{is_lt}
use Rattle.certificate.specs.Bounds.{PointBound}
use Rattle.certificate.specs.Growth.{above_blocks, point_order}
use Rattle.certificate.specs.Views.{point_of}
use Rattle.texts.specs.Views.{name_of}
use Rattle.certificate.proofs.Last.{at_last, at_none, above_blocks-last, above_blocks-none}
use Rattle.certificate.proofs.growth.is_above_blocks.Goals as goal

pub returns-in-None : goal.returns-in-None
returns-in-None c =
    let name = name_of c.args.program.now in
    let point = c.args.point in
    sym (at_none point_of (λ points. above_blocks points name point) c.args.points.now c.in-None.ensures.cases ∙ above_blocks-none name point)

pub returns-in-Some : goal.returns-in-Some
returns-in-Some c =
    let name = name_of c.args.program.now in
    let point = c.args.point in
    let at = at_last point_of (λ points. above_blocks points name point) (λ (b : PointBound). is_lt (point_order b.program b.point name point))
    (above_blocks-last name point) c.args.points.now _ c.in-Some.last.now c.in-Some.ensures.cases.0 in
    c.is_lt.ensures ∙ ap is_lt (c.compare_point.ensures ∙ ap (λ text. point_order (name_of c.in-Some.last.now.program) c.in-Some.last.now.point text point) c.as_bytes.ensures.bytes) ∙ sym at
