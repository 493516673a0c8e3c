use Rattle.std.proofs.Common.{length}
use Rattle.remarks.proofs.beyond.+beyond_at_all.Given as goal

abbrev pub decreases-beyond_at_all : goal.decreases-beyond_at_all
decreases-beyond_at_all l = length l.points.now
