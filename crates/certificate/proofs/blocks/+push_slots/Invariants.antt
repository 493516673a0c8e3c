use Rattle.std.proofs.Common.{length}
use Rattle.certificate.proofs.blocks.+push_slots.Given as goal

abbrev pub decreases-push_slots : goal.decreases-push_slots
decreases-push_slots l = length l.slots.now
