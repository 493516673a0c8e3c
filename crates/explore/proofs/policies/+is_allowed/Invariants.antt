use Rattle.std.proofs.Common.{length}
use Rattle.explore.proofs.policies.+is_allowed.Given as goal

abbrev pub decreases-is_allowed : goal.decreases-is_allowed
decreases-is_allowed l = length l.grants.now
