use Rattle.std.proofs.Common.{length}
use Rattle.remarks.proofs.unneeded.+any_ceiling_needs.Given as goal

abbrev pub decreases-any_ceiling_needs : goal.decreases-any_ceiling_needs
decreases-any_ceiling_needs l = length l.ceilings.now
