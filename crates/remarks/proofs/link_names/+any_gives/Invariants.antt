use Rattle.std.proofs.Common.{length}
use Rattle.remarks.proofs.link_names.+any_gives.Given as goal

abbrev pub decreases-any_gives : goal.decreases-any_gives
decreases-any_gives l = length l.code.now
