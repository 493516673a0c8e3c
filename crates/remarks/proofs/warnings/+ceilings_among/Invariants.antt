use Rattle.std.proofs.Common.{length}
use Rattle.remarks.proofs.warnings.+ceilings_among.Given as goal

abbrev pub decreases-ceilings_among : goal.decreases-ceilings_among
decreases-ceilings_among l = length l.authorities.now
