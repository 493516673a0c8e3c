use Rattle.std.proofs.Common.{length}
use Rattle.transfer.proofs.outcomes.+slots_within_with.Given as goal

abbrev pub decreases-slots_within_with : goal.decreases-slots_within_with
decreases-slots_within_with l = length l.slots.now
