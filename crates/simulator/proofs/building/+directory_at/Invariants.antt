use Rattle.std.proofs.Common.{length}
use Rattle.simulator.proofs.building.+directory_at.Given as goal

abbrev pub decreases-directory_at : goal.decreases-directory_at
decreases-directory_at l = length l.nodes.now
