use Rattle.std.proofs.Common.{length}
use Rattle.follow.proofs.outcomes.+any_unnamed.Given as goal

abbrev pub decreases-any_unnamed : goal.decreases-any_unnamed
decreases-any_unnamed l = length l.operands.now
