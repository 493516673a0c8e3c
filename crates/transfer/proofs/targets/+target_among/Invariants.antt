use Rattle.std.proofs.Common.{length}
use Rattle.transfer.proofs.targets.+target_among.Given as goal

abbrev pub decreases-target_among : goal.decreases-target_among
decreases-target_among l = length l.grants.now
