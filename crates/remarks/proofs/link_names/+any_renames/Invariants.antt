use Rattle.std.proofs.Common.{length}
use Rattle.remarks.proofs.link_names.+any_renames.Given as goal

abbrev pub decreases-any_renames : goal.decreases-any_renames
decreases-any_renames l = length l.code.now
