use Rattle.std.proofs.Common.{length}
use Rattle.call_facts.proofs.arguments.+flags_in.Given as goal

abbrev pub decreases-flags_in : goal.decreases-flags_in
decreases-flags_in l = length l.arguments.now
