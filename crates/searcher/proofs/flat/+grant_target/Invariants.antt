use Rattle.std.proofs.Common.{length}
use Rattle.searcher.proofs.flat.+grant_target.Given as goal

abbrev pub decreases-grant_target : goal.decreases-grant_target
decreases-grant_target l = length l.grants.now
