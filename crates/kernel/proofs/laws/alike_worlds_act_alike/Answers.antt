use Rattle.kernel.proofs.AlikeWorlds.{act_alike}
use Rattle.kernel.proofs.laws.alike_worlds_act_alike.Goals as goal

pub returns : goal.returns
returns c = act_alike
