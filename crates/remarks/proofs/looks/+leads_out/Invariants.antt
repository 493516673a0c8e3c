use Rattle.std.proofs.Common.{length}
use Rattle.remarks.proofs.looks.+leads_out.Given as goal

abbrev pub decreases-leads_out : goal.decreases-leads_out
decreases-leads_out l = length l.path.now
