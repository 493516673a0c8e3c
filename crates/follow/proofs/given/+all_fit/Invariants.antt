use Rattle.std.proofs.Common.{length}
use Rattle.follow.proofs.given.+all_fit.Given as goal

abbrev pub decreases-all_fit : goal.decreases-all_fit
decreases-all_fit l = length l.operands.now
