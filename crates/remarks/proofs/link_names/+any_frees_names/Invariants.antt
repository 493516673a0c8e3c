use Rattle.std.proofs.Common.{length}
use Rattle.remarks.proofs.link_names.+any_frees_names.Given as goal

abbrev pub decreases-any_frees_names : goal.decreases-any_frees_names
decreases-any_frees_names l = length l.grants.now
