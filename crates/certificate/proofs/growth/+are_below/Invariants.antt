use Rattle.std.proofs.Common.{length}
use Rattle.certificate.proofs.growth.+are_below.Given as goal

abbrev pub decreases-are_below : goal.decreases-are_below
decreases-are_below l = length l.kept.now
