use Rattle.std.proofs.Common.{length}
use Rattle.follow.proofs.numbers.+model_of.Given as goal

abbrev pub decreases-model_of : goal.decreases-model_of
decreases-model_of l = length l.pairs.now
