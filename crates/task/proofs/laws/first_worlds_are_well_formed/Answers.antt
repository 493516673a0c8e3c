use Rattle.task.proofs.FirstWorlds.{first_well_formed}
use Rattle.task.proofs.laws.first_worlds_are_well_formed.Goals as goal

pub returns : goal.returns
returns c = first_well_formed
