use Rattle.std.proofs.Common.{◌+◌, [], ◌∷◌, drop, map, sym, ◌∙◌, ap, subst}
use Rattle.std.specs.Prelude.{Err}
use Rattle.std.specs.List.{filter}
use Rattle.certificate.specs.Growths.{grown_by, then_grown}
use Rattle.certificate.specs.GrowthViews.{Grows}
use Rattle.certificate.specs.Told.{told_point}
use Rattle.certificate.specs.Views.{point_of, points_of}
use Rattle.certificate.proofs.Growths.{by_keeps}
use Rattle.checker.proofs.Along.{failed_first, passed_on}
use Rattle.searcher.specs.Shortening.{is_at_named}
use Rattle.searcher.proofs.Shortened.{first_then, none_left}
use Rattle.searcher.proofs.shortening.push_named.Goals as goal

pub returns-in_err-push_if_named : goal.returns-in_err-push_if_named
returns-in_err-push_if_named c =
    let plan = c.args.task.now in
    let points = c.args.points.now in
    let v = c.args.short.now.version in
    failed_first c.from_residual.result c.in_err-push_if_named.field-0.0 c.push_if_named.new.short _
    (grown_by (map (told_point v) (filter (is_at_named plan) (points_of (drop (c.loop-point.point-index + 1) points))))) _
    (passed_on c.from_residual.result c.in_err-push_if_named.field-0.0 c.from_residual.ensures)
    (subst (λ v. Grows (Err c.in_err-push_if_named.field-0.0) c.push_if_named.new.short
    (grown_by (map (told_point v) (filter (is_at_named plan) (point_of c.point-item.result ∷ []))) c.loop-point.short)) c.loop-point.invariant.1 c.in_err-push_if_named.ensures)
    (sym c.loop-point.invariant.0 ∙ first_then v plan points c.loop-point.point-index c.point-item.result c.loop-point.short c.loop-point-test.true c.point-item.is)

pub loop-point-preserved : goal.loop-point-preserved
loop-point-preserved c =
    let plan = c.args.task.now in
    let points = c.args.points.now in
    let v = c.args.short.now.version in
    let first = filter (is_at_named plan) (point_of c.point-item.result ∷ []) in (
      sym (first_then v plan points c.loop-point.point-index c.point-item.result c.loop-point.short c.loop-point-test.true c.point-item.is
          ∙ ap (then_grown (grown_by (map (told_point v) (filter (is_at_named plan) (points_of (drop (c.loop-point.point-index + 1) points))))))
          (ap (λ v. grown_by (map (told_point v) first) c.loop-point.short) (sym c.loop-point.invariant.1) ∙ c.in_ok-push_if_named.ensures))
          ∙ c.loop-point.invariant.0,
      by_keeps (map (told_point c.loop-point.short.version) first) c.loop-point.short c.push_if_named.new.short c.in_ok-push_if_named.ensures ∙ c.loop-point.invariant.1,
    )

pub returns : goal.returns
returns c =
    sym c.loop-point.invariant.0 ∙ none_left c.args.short.now.version c.args.task.now c.args.points.now c.loop-point.point-index c.loop-point.short c.loop-point-test.false
