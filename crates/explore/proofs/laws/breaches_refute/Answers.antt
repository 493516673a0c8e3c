use Rattle.explore.proofs.Refuting.{breaches_refute}
use Rattle.explore.proofs.laws.breaches_refute.Goals as goal

pub returns : goal.returns
returns c = breaches_refute
