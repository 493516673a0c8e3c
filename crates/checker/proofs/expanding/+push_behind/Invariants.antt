use Rattle.std.proofs.Common.{length}
use Rattle.checker.proofs.expanding.+push_behind.Given as goal

abbrev pub decreases-push_behind : goal.decreases-push_behind
decreases-push_behind l = length l.points.now
