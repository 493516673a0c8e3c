use Rattle.std.proofs.Common.{length}
use Rattle.explain.proofs.warning.+add_first.Given as goal

abbrev pub decreases-add_first : goal.decreases-add_first
decreases-add_first l = length l.descriptors.now
