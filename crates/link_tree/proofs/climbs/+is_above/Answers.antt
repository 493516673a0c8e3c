use Rattle.std.proofs.Common.{sym, ◌∙◌, ap}
use Rattle.file_tree.specs.Nodes.{node}
use Rattle.link_tree.specs.Links.{In, linked_nodes}
use Rattle.link_tree.specs.LinkViews.{links_of, stand_of}
use Rattle.file_tree.proofs.PlaceLaws.{begins_refl}
use Rattle.link_tree.proofs.LinkReads.{above_holder}
use Rattle.link_tree.proofs.LinkEntryLaws.{entry_stand}
use Rattle.link_tree.proofs.climbs.+is_above.Goals as goal

pub returns-then-n-dir : goal.returns-then-n-dir
returns-then-n-dir t c = sym (rw (← c.if-n-dir.true) (begins_refl (node (linked_nodes (links_of c.args.entries.now)) c.args.n).place))

pub returns-in-In : goal.returns-in-In
returns-in-In t c =
    let stand = entry_stand c.args.entries.now c.requires.linked c.args.dir c.index-entries-dir.result
    (In c.in-In.parent c.in-In.name.items) c.requires.dir_there c.index-entries-dir.is (ap stand_of c.in-In.is) in
    c.is_above.ensures ∙ above_holder (linked_nodes (links_of c.args.entries.now))
    (links_of c.args.entries.now) c.args.n c.args.dir c.in-In.parent c.in-In.name.items c.requires.linked.tree c.requires.linked.fits
    c.requires.n_linked c.if-n-dir.false stand
