use Rattle.task.proofs.Allowances.{allowed_is_tested}
use Rattle.task.proofs.laws.allowed_operations_are_tested.Goals as goal

pub returns : goal.returns
returns c = allowed_is_tested
