use Rattle.std.proofs.Common.{length}
use Rattle.rights.proofs.uses.+operation_among.Given as goal

abbrev pub decreases-operation_among : goal.decreases-operation_among
decreases-operation_among l = length l.rows.now
