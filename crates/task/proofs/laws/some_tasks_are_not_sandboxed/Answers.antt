use Rattle.task.proofs.Breaches.{some_are_not_sandboxed}
use Rattle.task.proofs.laws.some_tasks_are_not_sandboxed.Goals as goal

pub returns : goal.returns
returns c = some_are_not_sandboxed
