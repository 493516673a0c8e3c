use Rattle.certificate.proofs.Growing.{taken_keeps}
use Rattle.certificate.proofs.laws.lines_keep_the_version.Goals as goal

pub returns : goal.returns
returns c = taken_keeps
