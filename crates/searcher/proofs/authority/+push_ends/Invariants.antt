use Rattle.std.proofs.Common.{length}
use Rattle.searcher.proofs.authority.+push_ends.Given as goal

abbrev pub decreases-push_ends : goal.decreases-push_ends
decreases-push_ends l = length l.ends.now
