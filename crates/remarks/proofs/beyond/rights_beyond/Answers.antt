use Rattle.std.proofs.Common.{◌≡◌, ◌∙◌, ap}
use Rattle.certificate.specs.Bounds.{In_grant}
use Rattle.certificate.specs.Views.{held_of}
use Rattle.certificate.specs.declared.bounds.RightsRange.{RightsRange}
use Rattle.rights.specs.Values.{RightSet}
use Rattle.rights.specs.declared.sets.Rights.{Rights}
use Rattle.task.specs.Views.{grants_of}
use Rattle.texts.specs.Views.{name_of}
use Rattle.remarks.specs.Beyond.{beyond_of_target}
use Rattle.remarks.proofs.beyond.rights_beyond.Goals as goal

pub returns-in-InGrant : goal.returns-in-InGrant
returns-in-InGrant c =
    let beyond = beyond_of_target c.args.wide (grants_of c.args.grants.now) in
    let held = held_of c.args.held.now in
    let same : c.greatest.result.0 ≡ held.greatest =
    ap (λ (rights : Rights). rights.0) (c.greatest.ensures ∙ ap (λ (range : RightsRange). range.greatest) c.rights.ensures) in
    c.unlisted_rights.ensures
    ∙ (ap (λ (rights : RightSet). beyond rights (In_grant (name_of c.in-InGrant.grant))) same ∙ ap (beyond held.greatest) c.in-InGrant.ensures)
