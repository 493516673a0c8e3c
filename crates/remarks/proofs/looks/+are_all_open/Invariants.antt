use Rattle.std.proofs.Common.{length}
use Rattle.remarks.proofs.looks.+are_all_open.Given as goal

abbrev pub decreases-are_all_open : goal.decreases-are_all_open
decreases-are_all_open l = length l.slots.now
