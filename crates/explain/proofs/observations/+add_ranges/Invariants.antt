use Rattle.std.proofs.Common.{length}
use Rattle.explain.proofs.observations.+add_ranges.Given as goal

abbrev pub decreases-add_ranges : goal.decreases-add_ranges
decreases-add_ranges l = length l.points.now
