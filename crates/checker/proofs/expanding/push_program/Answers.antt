use Rattle.std.proofs.Common.{map, sym, ◌∙◌, ap, subst}
use Rattle.std.specs.Prelude.{Err, option_map}
use Rattle.certificate.specs.Growths.{grown_by}
use Rattle.certificate.specs.GrowthViews.{Grows}
use Rattle.certificate.specs.Told.{told_point}
use Rattle.certificate.specs.Views.{bound_of}
use Rattle.certificate.proofs.Growths.{by_keeps}
use Rattle.texts.specs.Views.{name_of}
use Rattle.std.specs.List.{slice_get}
use Rattle.rules.specs.Expansions.{carried_by, code_named, with_bound}
use Rattle.checker.proofs.Along.{along_end, along_failed, along_next, passed_on}
use Rattle.checker.proofs.expanding.push_program.Goals as goal

pub returns-in_err-push_point : goal.returns-in_err-push_point
returns-in_err-push_point c =
    let name = name_of c.args.name.now in
    let same = c.loop-point.invariant.1 in
    along_failed c.args.expanded.now.version c.args.task.now c.args.cert.now name (option_map bound_of c.loop-point.carried) c.loop-point.point c.loop-point-test.true
    c.from_residual.result c.in_err-push_point.field-0.0 c.push_point.new.expanded c.loop-point.expanded _
    (passed_on c.from_residual.result c.in_err-push_point.field-0.0 c.from_residual.ensures)
    (subst (Grows (Err c.in_err-push_point.field-0.0) c.push_point.new.expanded)
    (λ k. grown_by (map (told_point (same k)) (with_bound name c.loop-point.point (c.bound_with-bound.ensures k))) c.loop-point.expanded) c.in_err-push_point.ensures)
    c.loop-point.invariant.0

pub loop-point-preserved : goal.loop-point-preserved
loop-point-preserved c =
    let plan = c.args.task.now in
    let cert = c.args.cert.now in
    let name = name_of c.args.name.now in
    let same = c.loop-point.invariant.1 in
    let point = with_bound name c.loop-point.point (option_map bound_of c.bound_with-bound.result) in (
      along_next c.args.expanded.now.version plan cert name (option_map bound_of c.loop-point.carried) c.loop-point.point c.loop-point-test.true c.loop-point.expanded
          c.push_point.new.expanded (option_map bound_of c.carried_past-carried.result)
          ((λ k. grown_by (map (told_point (sym same k)) (with_bound name c.loop-point.point (sym c.bound_with-bound.ensures k))) c.loop-point.expanded) ∙ c.in_ok-push_point.ensures)
          (c.carried_past-carried.ensures ∙ ap (carried_by plan cert name c.loop-point.point (slice_get (code_named plan.programs name) c.loop-point.point)) c.bound_with-bound.ensures)
          ∙ c.loop-point.invariant.0,
      by_keeps (map (told_point c.loop-point.expanded.version) point) c.loop-point.expanded c.push_point.new.expanded c.in_ok-push_point.ensures ∙ same,
    )

pub returns : goal.returns
returns c =
    along_end c.args.expanded.now.version c.args.task.now c.args.cert.now (name_of c.args.name.now) (option_map bound_of c.loop-point.carried) c.loop-point.point
    c.loop-point.expanded _ c.loop-point-test.false c.loop-point.invariant.0
