use Rattle.std.proofs.Common.{None}
use Rattle.file_tree.proofs.VectorLaws.{in_items}
use Rattle.link_tree.proofs.LinkEntryChanges.{entry_filed, named_after}
use Rattle.link_tree.proofs.changes.unfile.Goals as goal

pub returns : goal.returns
returns c =
    entry_filed c.args.entries.now.items c.args.dir c.index_mut.result.now (in_items c.args.entries.now c.args.dir c.requires) c.index_mut.ensures.value c.remove.new.self c.args.name.now None
    (named_after c.args.name.now c.index_mut.result.now.children c.remove.new.self None c.remove.ensures.updates)
