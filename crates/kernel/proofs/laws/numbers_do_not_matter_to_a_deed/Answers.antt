use Rattle.kernel.proofs.Hostile.{numbers_as_well}
use Rattle.kernel.proofs.laws.numbers_do_not_matter_to_a_deed.Goals as goal

pub returns : goal.returns
returns c = numbers_as_well
