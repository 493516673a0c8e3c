use Rattle.std.proofs.Common.{length}
use Rattle.certificate.proofs.blocks.+push_ends.Given as goal

abbrev pub decreases-push_ends : goal.decreases-push_ends
decreases-push_ends l = length l.holds.now
