use Rattle.std.proofs.Common.{length}
use Rattle.records.proofs.entries.+end_bound.Given as goal

abbrev pub decreases-end_bound : goal.decreases-end_bound
decreases-end_bound l = length l.bindings.now
