use Rattle.std.proofs.Common.{length}
use Rattle.remarks.proofs.ways.+are_same.Given as goal

abbrev pub decreases-are_same : goal.decreases-are_same
decreases-are_same l = length l.flags.now
