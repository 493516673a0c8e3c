use Rattle.std.proofs.Common.{length}
use Rattle.certificate.proofs.order.+slots_within.Given as goal

abbrev pub decreases-slots_within : goal.decreases-slots_within
decreases-slots_within l = length l.left.now
