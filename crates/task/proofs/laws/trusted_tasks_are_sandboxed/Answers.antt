use Rattle.task.proofs.Trusted.{trusted_tasks_are_sandboxed}
use Rattle.task.proofs.laws.trusted_tasks_are_sandboxed.Goals as goal

pub returns : goal.returns
returns c = trusted_tasks_are_sandboxed
