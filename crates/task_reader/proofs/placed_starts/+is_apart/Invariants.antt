use Rattle.std.proofs.Common.{length}
use Rattle.task_reader.proofs.placed_starts.+is_apart.Given as goal

abbrev pub decreases-is_apart : goal.decreases-is_apart
decreases-is_apart l = length l.others.now
