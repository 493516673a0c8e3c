use Rattle.std.proofs.Common.{length}
use Rattle.follow.proofs.places.+is_granted.Given as goal

abbrev pub decreases-is_granted : goal.decreases-is_granted
decreases-is_granted l = length l.grants.now
