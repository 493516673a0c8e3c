use Rattle.std.proofs.Common.{length}
use Rattle.file_tree.specs.Nodes.{node}
use Rattle.link_tree.specs.Links.{linked_nodes}
use Rattle.link_tree.specs.LinkViews.{links_of}
use Rattle.link_tree.proofs.climbs.+is_above.Given as goal

abbrev pub decreases-is_above : goal.decreases-is_above
decreases-is_above l = length (node (linked_nodes (links_of l.entries.now)) l.dir).place
