use Rattle.std.proofs.Common.{length}
use Rattle.records.proofs.strace.+has_mark.Given as goal

abbrev pub decreases-has_mark : goal.decreases-has_mark
decreases-has_mark l = length l.marks.now
