use Rattle.commands.proofs.Accepted.{passing, forking, renaming}
use Rattle.commands.proofs.laws.accepted_tasks_act_in_the_mode.Goals as goal

pub returns : goal.returns
returns c = record { passing = passing; forking = forking; renaming = renaming }
