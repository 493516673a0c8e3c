use Rattle.std.proofs.Common.{length}
use Rattle.remarks.proofs.link_names.+any_may_give.Given as goal

abbrev pub decreases-any_may_give : goal.decreases-any_may_give
decreases-any_may_give l = length l.programs.now
