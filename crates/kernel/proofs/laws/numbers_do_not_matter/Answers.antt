use Rattle.kernel.proofs.Aimed.{steps_alike}
use Rattle.kernel.proofs.laws.numbers_do_not_matter.Goals as goal

pub returns : goal.returns
returns c = steps_alike
