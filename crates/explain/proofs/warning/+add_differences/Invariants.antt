use Rattle.std.proofs.Common.{length}
use Rattle.explain.proofs.warning.+add_differences.Given as goal

abbrev pub decreases-add_differences : goal.decreases-add_differences
decreases-add_differences l = length l.differences.now
