use Rattle.std.proofs.Common.{length}
use Rattle.explain.proofs.warning.+add_ceilings.Given as goal

abbrev pub decreases-add_ceilings : goal.decreases-add_ceilings
decreases-add_ceilings l = length l.ceilings.now
