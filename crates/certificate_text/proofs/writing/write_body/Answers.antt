use Rattle.certificate_text.proofs.GatheredTexts.{gathered-both, gathered-front}
use Rattle.certificate_text.proofs.Written.{passed_on}
use Rattle.certificate_text.proofs.writing.write_body.Goals as goal

pub returns-in_err-write_points : goal.returns-in_err-write_points
returns-in_err-write_points g c = gathered-front _ _ _ _ _ _ _ _ c.in_err-write_points.field-0.0 _ (passed_on _ _ c.from_residual.ensures) c.in_err-write_points.ensures

pub returns : goal.returns
returns g c = gathered-both _ _ _ _ _ _ _ _ _ _ _ _ _ c.in_ok-write_points.ensures c.write_rest.ensures
