use Rattle.std.proofs.Common.{◌∙◌, ap}
use Rattle.certificate.specs.Bounds.{tells_further}
use Rattle.certificate.specs.Views.{authorities_of}
use Rattle.certificate.proofs.Growths.{by_keeps, grown_keeps}
use Rattle.checker.proofs.Retold.{authorities_stay}
use Rattle.searcher.proofs.proposing.push_short.Goals as goal

pub push_authorities-requires-clause-told : goal.push_authorities-requires-clause-told
push_authorities-requires-clause-told c =
    let kept = grown_keeps _ c.push_named.new.short c.push_channels.new.cert c.in_ok-push_channels.ensures
    ∙ by_keeps _ c.args.short.now c.push_named.new.short c.in_ok-push_named.ensures ∙ c.requires.same in
    authorities_stay c.push_channels.new.cert.version c.args.cert.now (authorities_of c.authorities.result.now) (ap tells_further kept) c.authorities.ensures.valid
    c.authorities.ensures.authorities
