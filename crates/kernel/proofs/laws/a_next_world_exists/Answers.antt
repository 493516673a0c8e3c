use Rattle.kernel.proofs.Begun.{next_world}
use Rattle.kernel.proofs.laws.a_next_world_exists.Goals as goal

pub returns : goal.returns
returns c = next_world
