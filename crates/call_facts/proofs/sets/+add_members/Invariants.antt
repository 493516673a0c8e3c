use Rattle.std.proofs.Common.{length}
use Rattle.call_facts.proofs.sets.+add_members.Given as goal

abbrev pub decreases-add_members : goal.decreases-add_members
decreases-add_members g l = length l.rows.now
