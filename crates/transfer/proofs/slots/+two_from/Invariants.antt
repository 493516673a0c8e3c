use Rattle.std.proofs.Common.{length}
use Rattle.transfer.proofs.slots.+two_from.Given as goal

abbrev pub decreases-two_from : goal.decreases-two_from
decreases-two_from l = length l.slots.now
