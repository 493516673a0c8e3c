use Rattle.std.proofs.Common.{length}
use Rattle.remarks.proofs.reaching.+are_same.Given as goal

abbrev pub decreases-are_same : goal.decreases-are_same
decreases-are_same l = length l.uses.now
