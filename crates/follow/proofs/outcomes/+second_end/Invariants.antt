use Rattle.std.proofs.Common.{length}
use Rattle.follow.proofs.outcomes.+second_end.Given as goal

abbrev pub decreases-second_end : goal.decreases-second_end
decreases-second_end l = length l.bindings.now
