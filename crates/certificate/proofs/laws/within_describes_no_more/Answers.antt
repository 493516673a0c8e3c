use Rattle.certificate.proofs.Smaller.{describes_smaller}
use Rattle.certificate.proofs.laws.within_describes_no_more.Goals as goal

pub returns : goal.returns
returns c = describes_smaller
