use Rattle.std.proofs.Common.{length}
use Rattle.searcher.proofs.authority.+take_first.Given as goal

abbrev pub decreases-take_first : goal.decreases-take_first
decreases-take_first l = length l.starts.now
