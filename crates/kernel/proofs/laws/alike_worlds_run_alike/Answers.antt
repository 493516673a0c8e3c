use Rattle.kernel.proofs.Determined.{same_runs}
use Rattle.kernel.proofs.laws.alike_worlds_run_alike.Goals as goal

pub returns : goal.returns
returns c = same_runs
