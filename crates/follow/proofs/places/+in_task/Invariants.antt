use Rattle.std.proofs.Common.{length}
use Rattle.follow.proofs.places.+in_task.Given as goal

abbrev pub decreases-in_task : goal.decreases-in_task
decreases-in_task l = length l.placings.now
