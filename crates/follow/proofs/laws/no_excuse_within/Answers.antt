use Rattle.follow.proofs.Excuses.{no_excuse_within}
use Rattle.follow.proofs.laws.no_excuse_within.Goals as goal

pub returns : goal.returns
returns c = no_excuse_within
