use Rattle.std.proofs.Common.{◌∷◌, [], map, ap, ◌∙◌}
use Rattle.std.proofs.lemmas.List.{map-append}
use Rattle.certificate.specs.Views.{authority_of, held_end_of}
use Rattle.certificate.proofs.Outcomes.{on_err, on_ok}
use Rattle.certificate.proofs.authorities.Authority.hold_end.Goals as goal

pub returns-clause-ok : goal.returns-clause-ok
returns-clause-ok c =
    let old = c.args.self.now in
    on_ok c.add.result _ _
    (λ is. ap (λ list. record (authority_of old) { holds = list }) (ap (map held_end_of) is ∙ map-append held_end_of old.holds.items (c.args.held ∷ [])))
    c.add.ensures.ok

pub returns-clause-err : goal.returns-clause-err
returns-clause-err c =
    let old = c.args.self.now in
    on_err c.add.result _ _ (λ is. ap (λ list. record (authority_of old) { holds = list }) (ap (map held_end_of) is)) c.add.ensures.err
