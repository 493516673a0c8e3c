use Rattle.std.proofs.Common.{length}
use Rattle.remarks.proofs.link_names.+has_link_in.Given as goal

abbrev pub decreases-has_link_in : goal.decreases-has_link_in
decreases-has_link_in l = length l.nodes.now
