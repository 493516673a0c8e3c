use Rattle.link_tree.proofs.LinkBelow.{has_children_is}
use Rattle.link_tree.proofs.removes.has_children.Goals as goal

pub returns : goal.returns
returns c = has_children_is c.args.entries.now c.args.n c.index-entries-n.result c.is_empty.result c.requires.linked c.requires.there c.index-entries-n.is c.requires.n_linked c.is_empty.ensures
