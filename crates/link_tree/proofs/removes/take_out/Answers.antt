use Rattle.std.proofs.Common.{◌≡◌, length, arith, sym, ◌∙◌, ap}
use Rattle.link_tree.specs.Links.{In, linked_nodes, tree_entry}
use Rattle.link_tree.specs.LinkViews.{links_of}
use Rattle.file_tree.proofs.NodeLaws.{linked_there}
use Rattle.link_tree.proofs.LinkReads.{held}
use Rattle.link_tree.proofs.LinkEntryLaws.{count_links, count_nodes}
use Rattle.link_tree.proofs.LinkChanges.{stood_length}
use Rattle.link_tree.proofs.removes.take_out.Goals as goal

pub unfile-requires : goal.unfile-requires
unfile-requires c =
    let before : (tree_entry (links_of c.args.entries.now.items) c.args.n).stand ≡ In c.in-In.parent c.in-In.name.items = sym c.in-In.ensures.before in
    let h = held (linked_nodes (links_of c.args.entries.now.items)) (links_of c.args.entries.now.items) c.args.n c.in-In.parent c.in-In.name.items c.requires.linked.fits before in
    omega (
      arith,
      linked_there (linked_nodes (links_of c.args.entries.now.items)) c.in-In.parent h.holder,
      count_nodes c.args.entries.now.items c.requires.linked,
      count_links c.args.entries.now.items,
      count_links c.replace_stand-before.new.entries.items,
      ap length c.in-In.ensures.changed ∙ stood_length (links_of c.args.entries.now.items) c.args.n _,
      c.replace_stand-before.new.entries.ok.0,
    )
