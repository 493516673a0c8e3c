use Rattle.std.proofs.Common.{length}
use Rattle.certificate.proofs.blocks.+push_channels.Given as goal

abbrev pub decreases-push_channels : goal.decreases-push_channels
decreases-push_channels l = length l.channels.now
