use Rattle.kernel.proofs.AlikeWorlds.{alike_twice}
use Rattle.kernel.proofs.laws.alike_twice_is_alike.Goals as goal

pub returns : goal.returns
returns c = alike_twice
