use Rattle.kernel.proofs.FirstWorld.{first_world}
use Rattle.kernel.proofs.laws.a_well_formed_world_exists.Goals as goal

pub returns : goal.returns
returns c = first_world
