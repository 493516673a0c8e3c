use Rattle.std.proofs.Common.{length}
use Rattle.remarks.proofs.looks.+are_open_but_one.Given as goal

abbrev pub decreases-are_open_but_one : goal.decreases-are_open_but_one
decreases-are_open_but_one l = length l.slots.now
