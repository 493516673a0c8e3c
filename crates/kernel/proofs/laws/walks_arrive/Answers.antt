use Rattle.kernel.proofs.Scans.{walks_arrive}
use Rattle.kernel.proofs.laws.walks_arrive.Goals as goal

pub returns : goal.returns
returns c = walks_arrive
