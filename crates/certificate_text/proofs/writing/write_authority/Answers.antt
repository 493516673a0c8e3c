use Rattle.std.proofs.Common.{ap, ◌∙◌, ◌++◌}
use Rattle.certificate.specs.Views.{authority_of, version_of}
use Rattle.certificate_text.specs.Pieces.{ceiling_text, end_text, in_order, line_ended}
use Rattle.certificate_text.proofs.Pieces.{authority-text}
use Rattle.certificate_text.proofs.GatheredTexts.{gathered-as, gathered-both, gathered-front}
use Rattle.certificate_text.proofs.Written.{passed_on}
use Rattle.certificate_text.proofs.writing.write_authority.Goals as goal

pub returns-in_err-write_line : goal.returns-in_err-write_line
returns-in_err-write_line g c =
    let v = version_of c.args.version in
    let a = authority_of c.args.authority.now in
    gathered-as _ _ _ _ _ _ _ _ _
    (ap (λ line. line_ended v line ++ (in_order (λ n. ceiling_text v) 0 a.ceilings ++ in_order (λ n. end_text v) 0 a.holds)) c.authority_line.ensures ∙ authority-text v a)
    (gathered-front _ _ _ _ _ _ _ _ c.in_err-write_line.field-0.0 _ (passed_on _ _ c.from_residual.ensures) c.in_err-write_line.ensures)

pub returns : goal.returns
returns g c =
    let v = version_of c.args.version in
    let a = authority_of c.args.authority.now in
    gathered-as _ _ _ _ _ _ _ _ _
    (ap (λ line. line_ended v line ++ (in_order (λ n. ceiling_text v) 0 a.ceilings ++ in_order (λ n. end_text v) 0 a.holds)) c.authority_line.ensures ∙ authority-text v a)
    (gathered-both _ _ _ _ _ _ _ _ _ _ _ _ _ c.in_ok-write_line.ensures c.write_holdings.ensures)
