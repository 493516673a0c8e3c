use Rattle.kernel.proofs.Hostile.{next_world_as_well}
use Rattle.kernel.proofs.laws.a_deed_has_a_next_world.Goals as goal

pub returns : goal.returns
returns c = next_world_as_well
