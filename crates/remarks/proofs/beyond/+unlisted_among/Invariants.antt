use Rattle.std.proofs.Common.{length}
use Rattle.remarks.proofs.beyond.+unlisted_among.Given as goal

abbrev pub decreases-unlisted_among : goal.decreases-unlisted_among
decreases-unlisted_among l = length l.rows.now
