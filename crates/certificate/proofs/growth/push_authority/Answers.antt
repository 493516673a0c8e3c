use Rattle.std.proofs.Common.{◌∷◌, ◌++◌, [], ap, ◌∙◌}
use Rattle.std.proofs.lemmas.List.{map-append}
use Rattle.certificate.specs.Views.{authority_of, authorities_of}
use Rattle.certificate.proofs.Outcomes.{on_err, on_ok}
use Rattle.certificate.proofs.growth.push_authority.Goals as goal

pub returns-clause-ok : goal.returns-clause-ok
returns-clause-ok c =
    let old = c.args.authorities.now.items in
    on_ok c.add.result _ _
    (λ is. ap authorities_of is ∙ map-append authority_of old (c.begins.result ∷ []) ∙ ap (λ one. authorities_of old ++ one ∷ []) c.begins.ensures)
    c.add.ensures.ok

pub returns-clause-err : goal.returns-clause-err
returns-clause-err c = on_err c.add.result _ _ (λ is. ap authorities_of is) c.add.ensures.err
