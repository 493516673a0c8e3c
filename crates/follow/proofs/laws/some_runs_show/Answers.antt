use Rattle.follow.proofs.Samples.{some_runs_show}
use Rattle.follow.proofs.laws.some_runs_show.Goals as goal

pub returns : goal.returns
returns c = some_runs_show
