use Rattle.std.proofs.Common.{length}
use Rattle.follow.proofs.excused.+any_excused.Given as goal

abbrev pub decreases-any_excused : goal.decreases-any_excused
decreases-any_excused l = length l.operands.now
