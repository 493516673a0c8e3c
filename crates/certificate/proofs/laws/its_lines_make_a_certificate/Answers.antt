use Rattle.certificate.proofs.Whole.{certificates_grown}
use Rattle.certificate.proofs.laws.its_lines_make_a_certificate.Goals as goal

pub returns : goal.returns
returns c = certificates_grown
