use Rattle.std.proofs.Common.{length}
use Rattle.transfer.proofs.failing.+add_failing.Given as goal

abbrev pub decreases-add_failing : goal.decreases-add_failing
decreases-add_failing g l = length l.slots.now
