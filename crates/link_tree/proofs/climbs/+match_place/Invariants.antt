use Rattle.std.proofs.Common.{length}
use Rattle.file_tree.specs.Nodes.{node}
use Rattle.link_tree.specs.Links.{linked_nodes}
use Rattle.link_tree.specs.LinkViews.{links_of}
use Rattle.link_tree.proofs.climbs.+match_place.Given as goal

abbrev pub decreases-match_place : goal.decreases-match_place
decreases-match_place l = length (node (linked_nodes (links_of l.entries.now)) l.n).place
