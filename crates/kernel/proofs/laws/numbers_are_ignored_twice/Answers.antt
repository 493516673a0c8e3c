use Rattle.kernel.proofs.Determined.{differs_twice}
use Rattle.kernel.proofs.laws.numbers_are_ignored_twice.Goals as goal

pub returns : goal.returns
returns c = differs_twice
