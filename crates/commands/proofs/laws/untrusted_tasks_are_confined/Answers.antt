use Rattle.commands.proofs.Attacked.{handing, entering}
use Rattle.commands.proofs.laws.untrusted_tasks_are_confined.Goals as goal

pub returns : goal.returns
returns c = record { handing = handing; entering = entering }
