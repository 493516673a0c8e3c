use Rattle.std.proofs.Common.{length}
use Rattle.remarks.proofs.unneeded.+any_needs.Given as goal

abbrev pub decreases-any_needs : goal.decreases-any_needs
decreases-any_needs l = length l.authorities.now
