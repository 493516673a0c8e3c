use Rattle.std.proofs.Common.{◌&&◌, ap, sym, ◌∙◌}
use Rattle.certificate.specs.Bounds.{Bound, PointBound}
use Rattle.certificate.specs.Lines.{is_closed, is_full}
use Rattle.certificate.specs.Growth.{all_from, may_bound_register}
use Rattle.certificate.specs.Views.{point_of}
use Rattle.certificate.proofs.Last.{at_last, at_none, may_bound_register-last, may_bound_register-none}
use Rattle.certificate.proofs.growth.may_bound_register.Goals as goal

pub returns-in-None : goal.returns-in-None
returns-in-None c =
    let n = c.args.register in
    sym (at_none point_of (λ points. may_bound_register points n) c.args.points.now c.in-None.ensures.cases ∙ may_bound_register-none n)

pub returns-then-are_full : goal.returns-then-are_full
returns-then-are_full c =
    let n = c.args.register in
    let point = point_of c.in-Some.last.now in
    let answer = λ (b : Bound). all_from is_full n b.registers && all_from is_closed 0 b.slots in
    let last = at_last point_of (λ points. may_bound_register points n) (λ (b : PointBound). answer b.bound)
    (may_bound_register-last n) c.args.points.now _ c.in-Some.last.now c.in-Some.ensures.cases.0 in
    let full = sym c.if-are_full.true ∙ c.are_full.ensures in
    c.is_closed_from.ensures ∙ ap (λ b. b && all_from is_closed 0 point.bound.slots) full ∙ sym last

pub returns-else-are_full : goal.returns-else-are_full
returns-else-are_full c =
    let n = c.args.register in
    let point = point_of c.in-Some.last.now in
    let answer = λ (b : Bound). all_from is_full n b.registers && all_from is_closed 0 b.slots in
    let last = at_last point_of (λ points. may_bound_register points n) (λ (b : PointBound). answer b.bound)
    (may_bound_register-last n) c.args.points.now _ c.in-Some.last.now c.in-Some.ensures.cases.0 in
    let full = sym c.if-are_full.false ∙ c.are_full.ensures in
    c.if-are_full.false ∙ ap (λ b. b && all_from is_closed 0 point.bound.slots) full ∙ sym last
