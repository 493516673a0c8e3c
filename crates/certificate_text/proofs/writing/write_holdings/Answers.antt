use Rattle.std.proofs.Common.{ap, ◌∙◌, ◌++◌, map}
use Rattle.certificate.specs.Views.{authority_of, held_end_of, version_of}
use Rattle.certificate_text.specs.Pieces.{ceiling_text, end_text, in_order}
use Rattle.certificate_text.proofs.GatheredTexts.{gathered-as, gathered-both, gathered-front}
use Rattle.certificate_text.proofs.Written.{passed_on}
use Rattle.certificate_text.proofs.writing.write_holdings.Goals as goal

pub returns-in_err-write_ceilings : goal.returns-in_err-write_ceilings
returns-in_err-write_ceilings g c =
    let v = version_of c.args.version in
    gathered-as _ _ _ _ _ _ _ _ _
    (ap (λ ceilings. in_order (λ n. ceiling_text v) 0 ceilings ++ in_order (λ n. end_text v) 0 (authority_of c.args.authority.now).holds) c.ceilings.ensures)
    (gathered-front _ _ _ _ _ _ _ _ c.in_err-write_ceilings.field-0.0 _ (passed_on _ _ c.from_residual.ensures) c.in_err-write_ceilings.ensures)

pub returns : goal.returns
returns g c =
    let v = version_of c.args.version in
    let a = authority_of c.args.authority.now in
    gathered-as _ _ _ _ _ _ _ _ _
    (ap (λ ceilings. in_order (λ n. ceiling_text v) 0 ceilings ++ in_order (λ n. end_text v) 0 (map held_end_of c.holds.result.now)) c.ceilings.ensures
    ∙ ap (λ holds. in_order (λ n. ceiling_text v) 0 a.ceilings ++ in_order (λ n. end_text v) 0 holds) c.holds.ensures)
    (gathered-both _ _ _ _ _ _ _ _ _ _ _ _ _ c.in_ok-write_ceilings.ensures c.write_ends.ensures)
