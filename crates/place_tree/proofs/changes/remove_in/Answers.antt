use Rattle.std.proofs.Common.{refl}
use Rattle.file_tree.proofs.VectorLaws.{in_items}
use Rattle.place_tree.proofs.EntryLaws.{entry_removed}
use Rattle.place_tree.proofs.changes.remove_in.Goals as goal

pub returns-clause-ok : goal.returns-clause-ok
returns-clause-ok c = entry_removed c.args.entries.now.items c.args.n c.index_mut.result.now _ (in_items c.args.entries.now c.args.n c.requires) c.index_mut.ensures.value refl
