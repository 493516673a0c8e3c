use Rattle.std.proofs.Common.{length}
use Rattle.searcher.proofs.authority.+push_ceilings.Given as goal

abbrev pub decreases-push_ceilings : goal.decreases-push_ceilings
decreases-push_ceilings l = length l.ceilings.now
