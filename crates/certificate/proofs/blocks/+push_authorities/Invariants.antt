use Rattle.std.proofs.Common.{length}
use Rattle.certificate.proofs.blocks.+push_authorities.Given as goal

abbrev pub decreases-push_authorities : goal.decreases-push_authorities
decreases-push_authorities l = length l.authorities.now
