use Rattle.std.proofs.Common.{length}
use Rattle.explore.proofs.breaking.+are_all_spoken.Given as goal

abbrev pub decreases-are_all_spoken : goal.decreases-are_all_spoken
decreases-are_all_spoken l = length l.moves.now
