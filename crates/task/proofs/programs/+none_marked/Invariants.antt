use Rattle.std.proofs.Common.{length}
use Rattle.task.proofs.programs.+none_marked.Given as goal

abbrev pub decreases-none_marked : goal.decreases-none_marked
decreases-none_marked l = length l.programs.now
