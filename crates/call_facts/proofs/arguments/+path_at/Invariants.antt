use Rattle.std.proofs.Common.{length}
use Rattle.call_facts.proofs.arguments.+path_at.Given as goal

abbrev pub decreases-path_at : goal.decreases-path_at
decreases-path_at l = length l.arguments.now
