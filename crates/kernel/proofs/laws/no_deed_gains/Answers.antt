use Rattle.kernel.proofs.Hostile.{no_run_gains_as_well}
use Rattle.kernel.proofs.laws.no_deed_gains.Goals as goal

pub returns : goal.returns
returns c = no_run_gains_as_well
