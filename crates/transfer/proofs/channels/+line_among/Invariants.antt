use Rattle.std.proofs.Common.{length}
use Rattle.transfer.proofs.channels.+line_among.Given as goal

abbrev pub decreases-line_among : goal.decreases-line_among
decreases-line_among l = length l.channels.now
