use Rattle.std.proofs.Common.{length}
use Rattle.explain.proofs.warning.+add_starts.Given as goal

abbrev pub decreases-add_starts : goal.decreases-add_starts
decreases-add_starts l = length l.starts.now
