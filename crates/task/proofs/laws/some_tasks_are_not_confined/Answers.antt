use Rattle.task.proofs.Escapes.{some_are_not_confined}
use Rattle.task.proofs.laws.some_tasks_are_not_confined.Goals as goal

pub returns : goal.returns
returns c = some_are_not_confined
