use Rattle.std.proofs.Common.{length}
use Rattle.explain.proofs.renewing.+push_moved.Given as goal

abbrev pub decreases-push_moved : goal.decreases-push_moved
decreases-push_moved l = length l.points.now
