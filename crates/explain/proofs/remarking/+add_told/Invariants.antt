use Rattle.std.proofs.Common.{length}
use Rattle.explain.proofs.remarking.+add_told.Given as goal

abbrev pub decreases-add_told : goal.decreases-add_told
decreases-add_told l = length l.remarks.now
