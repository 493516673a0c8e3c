use Rattle.std.proofs.Common.{length}
use Rattle.call_facts.proofs.arguments.+any_register.Given as goal

abbrev pub decreases-any_register : goal.decreases-any_register
decreases-any_register l = length l.arguments.now
