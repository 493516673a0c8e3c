use Rattle.std.proofs.Common.{length}
use Rattle.remarks.proofs.policies.+has_side.Given as goal

abbrev pub decreases-has_side : goal.decreases-has_side
decreases-has_side l = length l.descriptors.now
