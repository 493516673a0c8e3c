use Rattle.std.proofs.Common.{length}
use Rattle.follow.proofs.places.+is_named.Given as goal

abbrev pub decreases-is_named : goal.decreases-is_named
decreases-is_named l = length l.programs.now
