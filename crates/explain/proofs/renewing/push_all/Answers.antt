use Rattle.std.proofs.Common.{◌∙◌, ap}
use Rattle.certificate.specs.Bounds.{tells_further}
use Rattle.certificate.specs.Views.{authorities_of}
use Rattle.certificate.proofs.Growths.{grown_keeps}
use Rattle.checker.proofs.Retold.{authorities_stay}
use Rattle.explain.proofs.renewing.push_all.Goals as goal

pub push_authorities-requires-clause-told : goal.push_authorities-requires-clause-told
push_authorities-requires-clause-told c =
    let kept = grown_keeps _ c.push_moved.new.renewed c.push_channels.new.cert c.in_ok-push_channels.ensures ∙ c.in_ok-push_moved.ensures ∙ c.requires in
    authorities_stay c.push_channels.new.cert.version c.args.cert.now (authorities_of c.authorities.result.now) (ap tells_further kept)
    c.authorities.ensures.valid c.authorities.ensures.authorities
