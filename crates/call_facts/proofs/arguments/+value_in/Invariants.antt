use Rattle.std.proofs.Common.{length}
use Rattle.call_facts.proofs.arguments.+value_in.Given as goal

abbrev pub decreases-value_in : goal.decreases-value_in
decreases-value_in l = length l.arguments.now
