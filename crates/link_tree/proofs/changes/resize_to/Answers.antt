use Rattle.std.proofs.Common.{sym, ◌∙◌, ap}
use Rattle.file_tree.specs.Changes.{resized}
use Rattle.link_tree.specs.Links.{TreeEntry}
use Rattle.link_tree.proofs.LinkEntryLaws.{entry_link}
use Rattle.file_tree.proofs.VectorLaws.{in_items, on_err, resized_items}
use Rattle.link_tree.proofs.LinkEntryChanges.{entry_refilled, same_content}
use Rattle.link_tree.proofs.changes.resize_to.Goals as goal

pub returns-in_err-resize-clause-err : goal.returns-in_err-resize-clause-err
returns-in_err-resize-clause-err c = on_err _
    (same_content c.args.entries.now.items c.args.n c.index_mut.result.now
    (in_items c.args.entries.now c.args.n c.requires) c.index_mut.ensures.value c.resize.new.self c.in_err-resize.ensures.items)

pub returns-clause-ok : goal.returns-clause-ok
returns-clause-ok c =
    entry_refilled c.args.entries.now.items c.args.n c.index_mut.result.now (in_items c.args.entries.now c.args.n c.requires) c.index_mut.ensures.value c.resize.new.self _
    (resized_items c.index_mut.result.now.content c.resize.new.self c.args.len c.in_ok-resize.ensures.items
    ∙ ap (λ (l : TreeEntry). resized l.content c.args.len)
    (sym (entry_link c.args.entries.now.items c.args.n c.index_mut.result.now
    (in_items c.args.entries.now c.args.n c.requires) c.index_mut.ensures.value)))
