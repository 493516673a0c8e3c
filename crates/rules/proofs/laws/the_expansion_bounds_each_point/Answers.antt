use Rattle.rules.proofs.expansions.Arriving.{expansion_bounds}
use Rattle.rules.proofs.laws.the_expansion_bounds_each_point.Goals as goal

pub returns : goal.returns
returns c = expansion_bounds
