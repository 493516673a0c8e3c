use Rattle.std.proofs.Common.{length}
use Rattle.searcher.proofs.flat.+next_behind.Given as goal

abbrev pub decreases-next_behind : goal.decreases-next_behind
decreases-next_behind l = length l.starts.now
