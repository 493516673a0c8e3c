use Rattle.std.proofs.Common.{length}
use Rattle.checker.proofs.starts.+registers_describe.Given as goal

abbrev pub decreases-registers_describe : goal.decreases-registers_describe
decreases-registers_describe l = length l.intervals.now
