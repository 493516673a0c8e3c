use Rattle.std.proofs.Common.{length}
use Rattle.call_facts.proofs.arguments.+descriptor_at.Given as goal

abbrev pub decreases-descriptor_at : goal.decreases-descriptor_at
decreases-descriptor_at l = length l.arguments.now
