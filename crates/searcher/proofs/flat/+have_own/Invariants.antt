use Rattle.std.proofs.Common.{length}
use Rattle.searcher.proofs.flat.+have_own.Given as goal

abbrev pub decreases-have_own : goal.decreases-have_own
decreases-have_own l = length l.starts.now
