use Rattle.task.proofs.KeptLimits.{trees_are_made_in_order}
use Rattle.task.proofs.laws.trees_are_made_in_order.Goals as goal

pub returns : goal.returns
returns c = trees_are_made_in_order
