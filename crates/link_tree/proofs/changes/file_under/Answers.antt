use Rattle.std.proofs.Common.{Some}
use Rattle.file_tree.proofs.VectorLaws.{in_items, on_err}
use Rattle.link_tree.proofs.LinkEntryChanges.{entry_filed, same_children, named_after}
use Rattle.link_tree.proofs.changes.file_under.Goals as goal

pub returns-in_err-insert-clause-err : goal.returns-in_err-insert-clause-err
returns-in_err-insert-clause-err c = on_err _
    (same_children c.args.entries.now.items c.args.dir c.index_mut.result.now
    (in_items c.args.entries.now c.args.dir c.requires) c.index_mut.ensures.value c.insert.new.self c.in_err-insert.ensures.err)

pub returns-clause-ok : goal.returns-clause-ok
returns-clause-ok c =
    entry_filed c.args.entries.now.items c.args.dir c.index_mut.result.now
    (in_items c.args.entries.now c.args.dir c.requires) c.index_mut.ensures.value c.insert.new.self c.args.name.items (Some c.args.n)
    (named_after c.args.name.items c.index_mut.result.now.children c.insert.new.self (Some c.args.n) c.in_ok-insert.ensures.updates)
