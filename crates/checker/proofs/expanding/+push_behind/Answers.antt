use Rattle.std.proofs.Common.{◌≡◌, ◌-◌, length, map, take, drop, sym, ◌∙◌, ap, subst}
use Rattle.std.specs.Prelude.{None}
use Rattle.std.specs.List.{flat_map}
use Rattle.std.specs.Str.{bytes_eq}
use Rattle.certificate.specs.Growths.{grown_by}
use Rattle.certificate.specs.GrowthViews.{Grows}
use Rattle.certificate.specs.Told.{told_point}
use Rattle.certificate.specs.Views.{points_of}
use Rattle.certificate.proofs.Growths.{by_keeps}
use Rattle.texts.specs.Views.{name_of}
use Rattle.rules.specs.Expansions.{points_along, programs_behind}
use Rattle.checker.proofs.Along.{first_behind}
use Rattle.checker.proofs.expanding.+push_behind.Goals as goal

pub returns-in_ok-push_program-in-len1-up : goal.returns-in_ok-push_program-in-len1-up
returns-in_ok-push_program-in-len1-up t c =
    let first = c.first-item.result in
    let plan = c.args.task.now in
    let cert = c.args.cert.now in
    let v = c.args.expanded.now.version in
    let named : c.as_bytes.result.now ≡ name_of first.program = c.as_bytes.ensures.bytes ∙ c.program.ensures in
    let other = (λ k. bytes_eq (sym named k) (sym c.as_bytes-in-len1-up.ensures.bytes k)) ∙ sym c.eq.ensures ∙ c.if-eq.false in
    let took = ap (λ name. grown_by (map (told_point v) (points_along plan cert name None 0 256)) c.args.expanded.now) (sym c.program-in-len1-up.ensures)
    ∙ c.in_ok-push_program-in-len1-up.ensures in
    let same = by_keeps _ c.args.expanded.now c.push_program.new.expanded c.in_ok-push_program-in-len1-up.ensures in
    first_behind v plan cert c.args.points.now first (name_of c.args.last.now) c.push_behind-in-len1-up.result c.push_behind-in-len1-up.new.expanded
    c.args.expanded.now c.push_program.new.expanded c.in-len1-up.len_at_least c.first-item.is other took
    (subst (Grows c.push_behind-in-len1-up.result c.push_behind-in-len1-up.new.expanded)
    (λ k. grown_by (map (told_point (same k)) (flat_map (λ name. points_along plan cert name None 0 256)
    (programs_behind (c.program-in-len1-up-2.ensures k) (points_of (take (length c.args.points.now - 1) (drop 1 c.args.points.now)))))) c.push_program.new.expanded)
    c.push_behind-in-len1-up.ensures)
