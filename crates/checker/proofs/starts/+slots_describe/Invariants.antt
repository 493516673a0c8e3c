use Rattle.std.proofs.Common.{length}
use Rattle.checker.proofs.starts.+slots_describe.Given as goal

abbrev pub decreases-slots_describe : goal.decreases-slots_describe
decreases-slots_describe l = length l.slots.now
