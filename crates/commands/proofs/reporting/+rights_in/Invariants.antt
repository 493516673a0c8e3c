use Rattle.std.proofs.Common.{length}
use Rattle.commands.proofs.reporting.+rights_in.Given as goal

abbrev pub decreases-rights_in : goal.decreases-rights_in
decreases-rights_in l = length l.slots.now
