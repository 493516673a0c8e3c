use Rattle.rules.proofs.Sound.{sound}
use Rattle.rules.proofs.laws.what_meets_the_rules_is_sandboxed.Goals as goal

pub returns : goal.returns
returns c = sound
