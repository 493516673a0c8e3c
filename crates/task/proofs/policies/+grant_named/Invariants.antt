use Rattle.std.proofs.Common.{length}
use Rattle.task.proofs.policies.+grant_named.Given as goal

abbrev pub decreases-grant_named : goal.decreases-grant_named
decreases-grant_named l = length l.grants.now
