use Rattle.std.proofs.Common.{length}
use Rattle.follow.proofs.numbers.+is_recorded.Given as goal

abbrev pub decreases-is_recorded : goal.decreases-is_recorded
decreases-is_recorded l = length l.pairs.now
