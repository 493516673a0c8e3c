use Rattle.std.proofs.Common.{sym, ◌∙◌, ap}
use Rattle.file_tree.specs.Nodes.{has_below}
use Rattle.link_tree.specs.Links.{linked_nodes}
use Rattle.link_tree.specs.LinkViews.{links_of}
use Rattle.link_tree.proofs.LinkRenames.{blocked_some, blocked_none}
use Rattle.link_tree.proofs.renames.is_blocked.Goals as goal

pub has_children-requires-clause-n_linked : goal.has_children-requires-clause-n_linked
has_children-requires-clause-n_linked c = (blocked_some (linked_nodes (links_of c.args.entries.now)) c.args.dir c.in-Some.n c.args.name.now c.in-Some.ensures.found).0

pub returns-in-Some : goal.returns-in-Some
returns-in-Some c =
    c.has_children.ensures ∙ ap (has_below (linked_nodes (links_of c.args.entries.now)))
    (blocked_some (linked_nodes (links_of c.args.entries.now)) c.args.dir c.in-Some.n c.args.name.now c.in-Some.ensures.found).1

pub returns-in-None : goal.returns-in-None
returns-in-None c = sym (blocked_none (linked_nodes (links_of c.args.entries.now)) c.args.dir c.args.name.now c.requires.linked.tree c.requires.dir_linked c.in-None.ensures.found)
