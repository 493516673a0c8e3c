use Rattle.std.proofs.Common.{sym, ◌∙◌, ap}
use Rattle.file_tree.specs.Nodes.{Node}
use Rattle.file_tree.specs.Changes.{resized}
use Rattle.file_tree.proofs.VectorLaws.{in_items, on_err, resized_items}
use Rattle.place_tree.proofs.EntryLaws.{entry_kept, entry_filled, entry_node, same_content}
use Rattle.place_tree.proofs.changes.truncate_in.Goals as goal

pub returns-in_err-resize-clause-err : goal.returns-in_err-resize-clause-err
returns-in_err-resize-clause-err c =
    on_err _ (entry_kept c.args.entries.now.items c.args.n c.index_mut.result.now _
    (in_items c.args.entries.now c.args.n c.requires) c.index_mut.ensures.value
    (same_content c.index_mut.result.now c.resize.new.self c.in_err-resize.ensures.items))

pub returns-clause-ok : goal.returns-clause-ok
returns-clause-ok c =
    let there = in_items c.args.entries.now c.args.n c.requires in
    let before = entry_node c.args.entries.now.items c.args.n c.index_mut.result.now there c.index_mut.ensures.value in
    entry_filled c.args.entries.now.items c.args.n c.index_mut.result.now c.resize.new.self _ there c.index_mut.ensures.value
    (resized_items c.index_mut.result.now.content c.resize.new.self c.args.len c.in_ok-resize.ensures.items ∙ ap (λ (m : Node). resized m.content c.args.len) (sym before))
