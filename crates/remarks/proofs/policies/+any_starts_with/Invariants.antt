use Rattle.std.proofs.Common.{length}
use Rattle.remarks.proofs.policies.+any_starts_with.Given as goal

abbrev pub decreases-any_starts_with : goal.decreases-any_starts_with
decreases-any_starts_with l = length l.starts.now
