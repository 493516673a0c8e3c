use Rattle.task.proofs.KeptLimits.{plans_keep_limits}
use Rattle.task.proofs.laws.plans_keep_limits.Goals as goal

pub returns : goal.returns
returns c = plans_keep_limits
