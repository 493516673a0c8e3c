use Rattle.rules.proofs.First.{first_is_found}
use Rattle.rules.proofs.laws.the_first_is_found.Goals as goal

pub returns : goal.returns
returns c = first_is_found
