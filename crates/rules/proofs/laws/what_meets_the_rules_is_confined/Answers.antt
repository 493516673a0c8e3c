use Rattle.rules.proofs.Sound.{confining}
use Rattle.rules.proofs.laws.what_meets_the_rules_is_confined.Goals as goal

pub returns : goal.returns
returns c = confining
