use Rattle.std.proofs.Common.{length}
use Rattle.file_tree.specs.Nodes.{node}
use Rattle.link_tree.specs.Links.{linked_nodes}
use Rattle.link_tree.specs.LinkViews.{links_of}
use Rattle.link_tree.proofs.climbs.+place_in.Given as goal

abbrev pub decreases-place_in : goal.decreases-place_in
decreases-place_in l = length (node (linked_nodes (links_of l.entries.now)) l.n).place
