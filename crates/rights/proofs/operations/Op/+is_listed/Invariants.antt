use Rattle.std.proofs.Common.{length}
use Rattle.rights.proofs.operations.Op.+is_listed.Given as goal

abbrev pub decreases-is_listed : goal.decreases-is_listed
decreases-is_listed l = length l.operations.now
