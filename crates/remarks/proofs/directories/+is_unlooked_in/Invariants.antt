use Rattle.std.proofs.Common.{length}
use Rattle.remarks.proofs.directories.+is_unlooked_in.Given as goal

abbrev pub decreases-is_unlooked_in : goal.decreases-is_unlooked_in
decreases-is_unlooked_in l = length l.grants.now
