use Rattle.explore.proofs.AttackLaws.{own_steps}
use Rattle.explore.proofs.laws.steps_without_attackers_are_traced.Goals as goal

pub returns : goal.returns
returns c = own_steps
