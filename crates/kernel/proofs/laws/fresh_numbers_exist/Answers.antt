use Rattle.kernel.proofs.Keeping.{fresh_numbers}
use Rattle.kernel.proofs.laws.fresh_numbers_exist.Goals as goal

pub returns : goal.returns
returns c = fresh_numbers
