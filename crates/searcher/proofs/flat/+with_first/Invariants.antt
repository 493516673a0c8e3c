use Rattle.std.proofs.Common.{length}
use Rattle.searcher.proofs.flat.+with_first.Given as goal

abbrev pub decreases-with_first : goal.decreases-with_first
decreases-with_first l = length l.descriptors.now
