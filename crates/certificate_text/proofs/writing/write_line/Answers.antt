use Rattle.std.proofs.Common.{[]}
use Rattle.certificate_text.proofs.GatheredTexts.{gathered-front}
use Rattle.certificate_text.proofs.Written.{passed_on}
use Rattle.certificate_text.proofs.writing.write_line.Goals as goal

pub returns-in_err-make_room : goal.returns-in_err-make_room
returns-in_err-make_room g c = gathered-front _ _ _ _ _ _ [] _ c.in_err-make_room.field-0.0 _ (passed_on _ _ c.from_residual.ensures) c.in_err-make_room.ensures.gathers
