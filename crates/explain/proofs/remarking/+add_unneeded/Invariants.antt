use Rattle.std.proofs.Common.{length}
use Rattle.explain.proofs.remarking.+add_unneeded.Given as goal

abbrev pub decreases-add_unneeded : goal.decreases-add_unneeded
decreases-add_unneeded l = length l.grants.now
