use Rattle.std.proofs.Common.{length}
use Rattle.certificate.proofs.points.+fill.Given as goal

abbrev pub decreases-fill : goal.decreases-fill
decreases-fill l = length l.kept.now
