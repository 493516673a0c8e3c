use Rattle.kernel.proofs.Scans.{lookups_compute}
use Rattle.kernel.proofs.laws.lookups_compute.Goals as goal

pub returns : goal.returns
returns c = lookups_compute
