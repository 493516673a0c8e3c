use Rattle.kernel.proofs.Gains.{never_gains}
use Rattle.kernel.proofs.laws.no_run_gains.Goals as goal

pub returns : goal.returns
returns c = never_gains
