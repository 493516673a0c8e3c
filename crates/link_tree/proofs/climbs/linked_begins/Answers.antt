use Rattle.file_tree.specs.Nodes.{node}
use Rattle.file_tree.specs.Places.{path_components}
use Rattle.link_tree.specs.Links.{linked_nodes}
use Rattle.link_tree.specs.LinkViews.{links_of}
use Rattle.link_tree.proofs.PathMatches.{decided, all_or_some}
use Rattle.link_tree.proofs.climbs.linked_begins.Goals as goal

pub returns-in-Decided : goal.returns-in-Decided
returns-in-Decided c = decided (path_components c.args.path.now) (node (linked_nodes (links_of c.args.entries.now)) c.args.n).place c.in-Decided.begins c.in-Decided.ensures

pub returns-in-Left : goal.returns-in-Left
returns-in-Left c =
    all_or_some c.first_name.result c.is_none.result (λ p. p.0.now) (λ p. path_components p.1.now) (path_components c.args.path.now)
    (node (linked_nodes (links_of c.args.entries.now)) c.args.n).place (path_components c.in-Left.rest.now)
    c.is_none.ensures c.first_name.ensures c.in-Left.ensures
