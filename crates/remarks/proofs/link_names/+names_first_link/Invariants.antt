use Rattle.std.proofs.Common.{length}
use Rattle.remarks.proofs.link_names.+names_first_link.Given as goal

abbrev pub decreases-names_first_link : goal.decreases-names_first_link
decreases-names_first_link l = length l.nodes.now
