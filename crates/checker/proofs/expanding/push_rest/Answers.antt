use Rattle.std.proofs.Common.{◌≡◌, ◌++◌, map, ap, sym, ◌∙◌, subst, append-nil}
use Rattle.std.specs.List.{flat_map}
use Rattle.certificate.specs.Bounds.{has_authorities, tells_further}
use Rattle.certificate.specs.Growths.{grown, grown_with, then_grown}
use Rattle.certificate.specs.GrowthViews.{Grows}
use Rattle.certificate.specs.Lines.{Bounds_channel, authority_lines}
use Rattle.certificate.specs.Views.{authorities_of, channels_of}
use Rattle.certificate.proofs.Behind.{authorities_alone}
use Rattle.certificate.proofs.Growths.{grown_append, grown_keeps, with_lines}
use Rattle.checker.proofs.Along.{failed_first, passed_on}
use Rattle.checker.proofs.Retold.{authorities_stay, channels_stay}
use Rattle.checker.proofs.expanding.push_rest.Goals as goal

pub returns-in_err-push_channels : goal.returns-in_err-push_channels
returns-in_err-push_channels c =
    let cert = c.args.cert.now in
    let same = channels_stay c.args.expanded.now.version cert (channels_of c.channels.result.now) c.requires.further c.channels.ensures.valid c.channels.ensures.channels in
    failed_first c.from_residual.result c.in_err-push_channels.field-0.0 c.push_channels.new.cert _
    (grown (flat_map authority_lines cert.authorities)) _ (passed_on c.from_residual.result c.in_err-push_channels.field-0.0 c.from_residual.ensures)
    c.in_err-push_channels.ensures
    (grown_append (map Bounds_channel cert.channels) (flat_map authority_lines cert.authorities) c.args.expanded.now
    ∙ ap (λ channels. then_grown (grown (flat_map authority_lines cert.authorities)) (grown (map Bounds_channel channels) c.args.expanded.now)) (sym same))

-- where the version has no authorities there are none
pub returns-then-not-has_authorities : goal.returns-then-not-has_authorities
returns-then-not-has_authorities c =
    let cert = c.args.cert.now in
    let without = ap has_authorities (sym c.version.ensures) ∙ sym c.has_authorities.ensures ∙ c.if-not-has_authorities.true in
    let none = authorities_alone cert c.channels.ensures.valid without in
    let same = channels_stay c.args.expanded.now.version cert (channels_of c.channels.result.now) c.requires.further c.channels.ensures.valid c.channels.ensures.channels in
    ap (λ authorities. grown (map Bounds_channel cert.channels ++ flat_map authority_lines authorities) c.args.expanded.now) none
    ∙ ap (λ lines. grown lines c.args.expanded.now) (append-nil (map Bounds_channel cert.channels))
    ∙ ap (λ channels. grown (map Bounds_channel channels) c.args.expanded.now) (sym same) ∙ c.in_ok-push_channels.ensures

pub push_authorities-requires-clause-version : goal.push_authorities-requires-clause-version
push_authorities-requires-clause-version c =
    ap has_authorities (grown_keeps _ c.args.expanded.now c.push_channels.new.cert c.in_ok-push_channels.ensures)
    ∙ c.requires.authorities ∙ ap has_authorities (sym c.version.ensures) ∙ sym c.has_authorities.ensures ∙ c.if-not-has_authorities.false

pub push_authorities-requires-clause-told : goal.push_authorities-requires-clause-told
push_authorities-requires-clause-told c =
    let kept = ap tells_further (grown_keeps _ c.args.expanded.now c.push_channels.new.cert c.in_ok-push_channels.ensures) in
    authorities_stay c.push_channels.new.cert.version c.args.cert.now (authorities_of c.authorities.result.now) (kept ∙ c.requires.further) c.authorities.ensures.valid
    c.authorities.ensures.authorities

pub returns : goal.returns
returns c =
    let cert = c.args.cert.now in
    let same = channels_stay c.args.expanded.now.version cert (channels_of c.channels.result.now) c.requires.further c.channels.ensures.valid c.channels.ensures.channels in
    let whole : grown (flat_map authority_lines cert.authorities) c.push_channels.new.cert ≡ grown (map Bounds_channel cert.channels ++ flat_map authority_lines cert.authorities) c.args.expanded.now =
    sym (grown_append (map Bounds_channel cert.channels) (flat_map authority_lines cert.authorities) c.args.expanded.now
    ∙ ap (λ channels. then_grown (grown (flat_map authority_lines cert.authorities)) (grown (map Bounds_channel channels) c.args.expanded.now)) (sym same)
    ∙ ap (then_grown (grown (flat_map authority_lines cert.authorities))) c.in_ok-push_channels.ensures) in
    subst (Grows c.push_authorities.result c.push_authorities.new.cert)
    (ap (λ authorities. grown_with authorities c.push_channels.new.cert) c.authorities.ensures.authorities ∙ with_lines cert.authorities c.push_channels.new.cert ∙ whole)
    c.push_authorities.ensures
