use Rattle.std.proofs.Common.{length}
use Rattle.follow.proofs.numbers.+is_apart.Given as goal

abbrev pub decreases-is_apart : goal.decreases-is_apart
decreases-is_apart l = length l.pairs.now
