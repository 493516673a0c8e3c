use Rattle.std.proofs.Common.{length}
use Rattle.explain.proofs.observations.+add_warnings.Given as goal

abbrev pub decreases-add_warnings : goal.decreases-add_warnings
decreases-add_warnings l = length l.warnings.now
