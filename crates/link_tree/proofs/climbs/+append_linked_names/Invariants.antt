use Rattle.std.proofs.Common.{length}
use Rattle.file_tree.specs.Nodes.{node}
use Rattle.link_tree.specs.Links.{linked_nodes}
use Rattle.link_tree.specs.LinkViews.{links_of}
use Rattle.link_tree.proofs.climbs.+append_linked_names.Given as goal

abbrev pub decreases-append_linked_names : goal.decreases-append_linked_names
decreases-append_linked_names l = length (node (linked_nodes (links_of l.entries.now)) l.n).place
