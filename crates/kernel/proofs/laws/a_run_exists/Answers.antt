use Rattle.kernel.proofs.Determined.{run_exists}
use Rattle.kernel.proofs.laws.a_run_exists.Goals as goal

pub returns : goal.returns
returns c = run_exists
