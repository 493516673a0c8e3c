use Rattle.std.proofs.Common.{length}
use Rattle.simulator.proofs.owned.+list_from.Given as goal

abbrev pub decreases-list_from : goal.decreases-list_from
decreases-list_from l = length l.starts.now
