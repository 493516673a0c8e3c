use Rattle.std.proofs.Common.{length}
use Rattle.explain.proofs.remarking.+add_operations.Given as goal

abbrev pub decreases-add_operations : goal.decreases-add_operations
decreases-add_operations l = length l.operations.now
