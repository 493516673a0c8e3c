use Rattle.std.proofs.Common.{length}
use Rattle.explore.proofs.exploring.+are_own.Given as goal

abbrev pub decreases-are_own : goal.decreases-are_own
decreases-are_own l = length l.moves.now
