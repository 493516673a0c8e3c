use Rattle.std.proofs.Common.{length}
use Rattle.remarks.proofs.link_names.+has_link.Given as goal

abbrev pub decreases-has_link : goal.decreases-has_link
decreases-has_link l = length l.nodes.now
