use Rattle.explore.proofs.Samples.{some_runs_break}
use Rattle.explore.proofs.laws.some_runs_break.Goals as goal

pub returns : goal.returns
returns c = some_runs_break
