use Rattle.std.proofs.Common.{length}
use Rattle.explore.proofs.breaches.+outside.Given as goal

abbrev pub decreases-outside : goal.decreases-outside
decreases-outside l = length l.effects.now
