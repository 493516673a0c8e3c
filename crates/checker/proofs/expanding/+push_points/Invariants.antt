use Rattle.std.proofs.Common.{length}
use Rattle.checker.proofs.expanding.+push_points.Given as goal

abbrev pub decreases-push_points : goal.decreases-push_points
decreases-push_points l = length l.points.now
