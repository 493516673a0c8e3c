use Rattle.answers.proofs.PlannedLaws.{planned_is_accepted}
use Rattle.answers.proofs.laws.what_is_planned_is_accepted.Goals as goal

pub returns : goal.returns
returns c = planned_is_accepted
