use Rattle.std.proofs.Common.{◌≡◌, List, map, sym, ◌∙◌, ap, subst}
use Rattle.std.specs.List.{filter}
use Rattle.certificate.specs.Bounds.{PointBound, Certificate, tells_further}
use Rattle.certificate.specs.Growth.{IsCertificate}
use Rattle.certificate.specs.Growths.{grown, grown_by, then_grown}
use Rattle.certificate.specs.GrowthViews.{Grows}
use Rattle.certificate.specs.Lines.{Bounds_channel, lines_of}
use Rattle.certificate.specs.Told.{told_point}
use Rattle.certificate.specs.Views.{channels_of, points_of}
use Rattle.certificate.proofs.Growths.{by_keeps}
use Rattle.checker.proofs.Along.{failed_first, passed_on}
use Rattle.checker.proofs.Retold.{channels_stay}
use Rattle.task.specs.Plans.{Plan}
use Rattle.searcher.specs.Shortening.{is_at_named, short_form}
use Rattle.searcher.proofs.Shortened.{named_stay, short_lines}
use Rattle.searcher.proofs.shortening.push_short.Goals as goal

-- of the points as they are given
lines_from : (plan : Plan) (c d : Certificate) (points : List PointBound) → d.version ≡ c.version → IsCertificate c → points ≡ c.points
    → grown (lines_of (short_form plan c)) d
    ≡ then_grown (grown (map Bounds_channel c.channels)) (grown_by (map (told_point d.version) (filter (is_at_named plan) points)) d)
lines_from plan c d points same valid are =
    short_lines plan c d ∙ ap (λ points. then_grown (grown (map Bounds_channel c.channels)) (grown_by points d)) (sym (named_stay d.version plan c points same valid are))

pub returns-in_err-push_named-clause-grows : goal.returns-in_err-push_named-clause-grows
returns-in_err-push_named-clause-grows c =
    failed_first c.from_residual.result c.in_err-push_named.field-0.0 c.push_named.new.short _ (grown (map Bounds_channel c.args.cert.now.channels)) _
    (passed_on c.from_residual.result c.in_err-push_named.field-0.0 c.from_residual.ensures) c.in_err-push_named.ensures
    (lines_from c.args.task.now c.args.cert.now c.args.short.now (points_of c.points.result.now) c.requires c.points.ensures.valid c.points.ensures.points)

pub returns-clause-grows : goal.returns-clause-grows
returns-clause-grows c =
    let cert = c.args.cert.now in
    let kept = by_keeps _ c.args.short.now c.push_named.new.short c.in_ok-push_named.ensures ∙ c.requires in
    let same = channels_stay c.push_named.new.short.version cert (channels_of c.channels.result.now) (ap tells_further kept) c.channels.ensures.valid c.channels.ensures.channels in
    subst (Grows c.push_channels.result c.push_channels.new.cert)
    (ap (λ channels. grown (map Bounds_channel channels) c.push_named.new.short) same
    ∙ sym (lines_from c.args.task.now cert c.args.short.now (points_of c.points.result.now) c.requires c.points.ensures.valid c.points.ensures.points
    ∙ ap (then_grown (grown (map Bounds_channel cert.channels))) c.in_ok-push_named.ensures))
    c.push_channels.ensures
