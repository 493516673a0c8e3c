use Rattle.std.proofs.Common.{length}
use Rattle.explain.proofs.remarking.+add_told_of_task.Given as goal

abbrev pub decreases-add_told_of_task : goal.decreases-add_told_of_task
decreases-add_told_of_task l = length l.remarks.now
