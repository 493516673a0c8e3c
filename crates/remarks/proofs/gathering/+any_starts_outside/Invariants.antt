use Rattle.std.proofs.Common.{length}
use Rattle.remarks.proofs.gathering.+any_starts_outside.Given as goal

abbrev pub decreases-any_starts_outside : goal.decreases-any_starts_outside
decreases-any_starts_outside l = length l.starts.now
