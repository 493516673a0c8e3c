use Rattle.std.proofs.Common.{◌-◌, length, map, take, drop, sym, ◌∙◌, ap, subst}
use Rattle.std.specs.Prelude.{None}
use Rattle.std.specs.List.{flat_map}
use Rattle.certificate.specs.Growths.{grown_by}
use Rattle.certificate.specs.GrowthViews.{Grows}
use Rattle.certificate.specs.Told.{told_point}
use Rattle.certificate.specs.Views.{points_of}
use Rattle.certificate.proofs.Growths.{by_keeps}
use Rattle.rules.specs.Expansions.{points_along, programs_behind, programs_given}
use Rattle.checker.proofs.Along.{first_given}
use Rattle.checker.proofs.expanding.push_programs.Goals as goal

pub returns-in_ok-push_program-in-len1-up-clause-grows : goal.returns-in_ok-push_program-in-len1-up-clause-grows
returns-in_ok-push_program-in-len1-up-clause-grows c =
    let first = c.first-item.result in
    let plan = c.args.task.now in
    let cert = c.args.cert.now in
    let points = c.points.result.now in
    let v = c.args.expanded.now.version in
    let took = ap (λ name. grown_by (map (told_point v) (points_along plan cert name None 0 256)) c.args.expanded.now) (sym c.program.ensures)
    ∙ c.in_ok-push_program-in-len1-up.ensures in
    let same = by_keeps _ c.args.expanded.now c.push_program.new.expanded c.in_ok-push_program-in-len1-up.ensures in
    let grows = subst (Grows c.push_behind.result c.push_behind.new.expanded)
    (λ k. grown_by (map (told_point (same k)) (flat_map (λ name. points_along plan cert name None 0 256)
    (programs_behind (c.program-in-len1-up.ensures k) (points_of (take (length points - 1) (drop 1 points)))))) c.push_program.new.expanded)
    c.push_behind.ensures in
    subst (λ points. Grows c.push_behind.result c.push_behind.new.expanded
    (grown_by (map (told_point v) (flat_map (λ name. points_along plan cert name None 0 256) (programs_given points))) c.args.expanded.now)) c.points.ensures.points
    (first_given v plan cert points first c.push_behind.result c.push_behind.new.expanded c.args.expanded.now c.push_program.new.expanded c.in-len1-up.len_at_least
    c.first-item.is took grows)
