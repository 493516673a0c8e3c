use Rattle.std.proofs.Common.{length}
use Rattle.rights.proofs.uses.+companions_among.Given as goal

abbrev pub decreases-companions_among : goal.decreases-companions_among
decreases-companions_among l = length l.rows.now
