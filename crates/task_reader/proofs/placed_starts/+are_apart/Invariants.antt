use Rattle.std.proofs.Common.{length}
use Rattle.task_reader.proofs.placed_starts.+are_apart.Given as goal

abbrev pub decreases-are_apart : goal.decreases-are_apart
decreases-are_apart l = length l.descriptors.now
