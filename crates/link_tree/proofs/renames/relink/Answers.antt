use Rattle.std.proofs.Common.{length, arith, sym, ◌∙◌, ap}
use Rattle.link_tree.specs.LinkViews.{links_of}
use Rattle.link_tree.proofs.LinkEntryLaws.{count_links}
use Rattle.link_tree.proofs.LinkChanges.{stood_length}
use Rattle.link_tree.proofs.renames.relink.Goals as goal

pub unfile-requires : goal.unfile-requires
unfile-requires c =
    let same = ap length c.in-In.ensures.changed ∙ stood_length (links_of c.args.entries.now.items) c.args.n _ in
    omega (
      arith,
      same,
      c.requires.holder c.in-In.parent c.in-In.old.items (sym c.in-In.ensures.before),
      count_links c.args.entries.now.items,
      count_links c.replace_stand-before.new.entries.items,
      c.args.entries.now.ok.0,
      c.replace_stand-before.new.entries.ok.0,
    )
