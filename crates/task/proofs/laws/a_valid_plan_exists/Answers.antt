use Rattle.task.proofs.Samples.{plan_exists}
use Rattle.task.proofs.laws.a_valid_plan_exists.Goals as goal

pub returns : goal.returns
returns c = plan_exists
