use Rattle.std.proofs.Common.{◌∷◌, [], ap, ◌∙◌}
use Rattle.std.proofs.lemmas.List.{map-append}
use Rattle.certificate.specs.Views.{channel_of, channels_of}
use Rattle.certificate.proofs.Outcomes.{on_err, on_ok}
use Rattle.certificate.proofs.growth.push_channel.Goals as goal

pub returns-clause-ok : goal.returns-clause-ok
returns-clause-ok c =
    let old = c.args.channels.now.items in
    on_ok c.add.result _ _ (λ is. ap channels_of is ∙ map-append channel_of old (c.args.channel ∷ [])) c.add.ensures.ok

pub returns-clause-err : goal.returns-clause-err
returns-clause-err c = on_err c.add.result _ _ (λ is. ap channels_of is) c.add.ensures.err
