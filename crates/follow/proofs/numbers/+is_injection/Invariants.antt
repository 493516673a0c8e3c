use Rattle.std.proofs.Common.{length}
use Rattle.follow.proofs.numbers.+is_injection.Given as goal

abbrev pub decreases-is_injection : goal.decreases-is_injection
decreases-is_injection l = length l.pairs.now
