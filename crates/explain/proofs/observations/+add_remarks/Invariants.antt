use Rattle.std.proofs.Common.{length}
use Rattle.explain.proofs.observations.+add_remarks.Given as goal

abbrev pub decreases-add_remarks : goal.decreases-add_remarks
decreases-add_remarks l = length l.remarks.now
