use Rattle.kernel.proofs.Gainful.{nothing_comes_from_elsewhere}
use Rattle.kernel.proofs.laws.nothing_comes_from_elsewhere.Goals as goal

pub returns : goal.returns
returns c = nothing_comes_from_elsewhere
