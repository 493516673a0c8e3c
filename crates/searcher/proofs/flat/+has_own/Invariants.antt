use Rattle.std.proofs.Common.{length}
use Rattle.searcher.proofs.flat.+has_own.Given as goal

abbrev pub decreases-has_own : goal.decreases-has_own
decreases-has_own l = length l.starts.now
