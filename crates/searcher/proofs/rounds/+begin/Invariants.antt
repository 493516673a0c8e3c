use Rattle.std.proofs.Common.{length}
use Rattle.searcher.proofs.rounds.+begin.Given as goal

abbrev pub decreases-begin : goal.decreases-begin
decreases-begin l = length l.starts.now
