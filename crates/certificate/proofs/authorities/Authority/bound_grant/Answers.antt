use Rattle.std.proofs.Common.{◌∷◌, [], map, ap, ◌∙◌}
use Rattle.std.proofs.lemmas.List.{map-append}
use Rattle.certificate.specs.Views.{authority_of, ceiling_of}
use Rattle.certificate.proofs.Outcomes.{on_err, on_ok}
use Rattle.certificate.proofs.authorities.Authority.bound_grant.Goals as goal

pub returns-clause-ok : goal.returns-clause-ok
returns-clause-ok c =
    let old = c.args.self.now in
    on_ok c.add.result _ _
    (λ is. ap (λ list. record (authority_of old) { ceilings = list }) (ap (map ceiling_of) is ∙ map-append ceiling_of old.ceilings.items (c.args.ceiling ∷ [])))
    c.add.ensures.ok

pub returns-clause-err : goal.returns-clause-err
returns-clause-err c =
    let old = c.args.self.now in
    on_err c.add.result _ _ (λ is. ap (λ list. record (authority_of old) { ceilings = list }) (ap (map ceiling_of) is)) c.add.ensures.err
