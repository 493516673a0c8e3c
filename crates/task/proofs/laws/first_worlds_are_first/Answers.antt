use Rattle.task.proofs.AsGiven.{first_is_first}
use Rattle.task.proofs.laws.first_worlds_are_first.Goals as goal

pub returns : goal.returns
returns c = first_is_first
