use Rattle.std.proofs.Common.{◌≡◌, ◌∙◌, ◌⊎◌, inl, inr, map, ap, sym, subst}
use Rattle.certificate.specs.Bounds.{One, Certificate}
use Rattle.certificate.specs.Growths.{grown_by}
use Rattle.certificate.specs.GrowthViews.{Grows}
use Rattle.certificate.specs.Told.{told_point}
use Rattle.certificate.specs.Views.{version_of}
use Rattle.certificate.specs.declared.certs.Version.{Version as VersionCode}
use Rattle.certificate.specs.declared.certs.Version.TheVariants as code
use Rattle.task.specs.Plans.{Plan}
use Rattle.rules.specs.Expansions.{expanded, expanded_points, expansion}
use Rattle.checker.proofs.Retold.{carried_stay, given_stay}
use Rattle.checker.proofs.expanding.push_expanded.Goals as goal

-- in the other versions bounds are carried
carried_points : (version : VersionCode) (plan : Plan) (c : Certificate) → version_of version ≡ c.version
    → (version ≡ code.Two) ⊎ ((version ≡ code.Three) ⊎ (version ≡ code.Four)) → (expansion plan c).points ≡ expanded_points plan c
carried_points version plan c is (inl two) = ap (λ v. (expanded v plan c).points) (sym is ∙ ap version_of two)
carried_points version plan c is (inr (inl three)) = ap (λ v. (expanded v plan c).points) (sym is ∙ ap version_of three)
carried_points version plan c is (inr (inr four)) = ap (λ v. (expanded v plan c).points) (sym is ∙ ap version_of four)

pub returns-in-One-clause-grows : goal.returns-in-One-clause-grows
returns-in-One-clause-grows c =
    let plan = c.args.task.now in
    let cert = c.args.cert.now in
    let one : cert.version ≡ One = sym c.version.ensures ∙ ap version_of c.in-One.is in
    let own = ap (λ version. (expanded version plan cert).points) one in
    let given = ap (map (told_point c.args.expanded.now.version)) c.points.ensures.points ∙ given_stay c.args.expanded.now.version cert c.requires c.points.ensures.valid in
    subst (λ points. Grows c.push_points.result c.push_points.new.expanded (grown_by points c.args.expanded.now)) (given ∙ sym own) c.push_points.ensures

pub returns-in-Two : goal.returns-in-Two
returns-in-Two c =
    let plan = c.args.task.now in
    let cert = c.args.cert.now in
    let carried = carried_points c.version.result plan cert c.version.ensures c.in-Two.is in
    let same = carried_stay c.args.expanded.now.version plan cert c.requires c.push_programs.ensures.valid in
    record {
      grows = subst (λ points. Grows c.push_programs.result c.push_programs.new.expanded (grown_by points c.args.expanded.now)) (same ∙ sym carried) c.push_programs.ensures.grows;
      valid = c.push_programs.ensures.valid;
    }
