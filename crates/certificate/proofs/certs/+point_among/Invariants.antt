use Rattle.std.proofs.Common.{length}
use Rattle.certificate.proofs.certs.+point_among.Given as goal

abbrev pub decreases-point_among : goal.decreases-point_among
decreases-point_among l = length l.points.now
