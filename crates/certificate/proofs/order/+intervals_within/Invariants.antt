use Rattle.std.proofs.Common.{length}
use Rattle.certificate.proofs.order.+intervals_within.Given as goal

abbrev pub decreases-intervals_within : goal.decreases-intervals_within
decreases-intervals_within l = length l.left.now
