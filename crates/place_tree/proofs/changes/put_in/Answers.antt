use Rattle.std.proofs.Common.{sym, ◌∙◌, ap}
use Rattle.file_tree.specs.Nodes.{Node}
use Rattle.file_tree.specs.Changes.{written}
use Rattle.file_tree.proofs.VectorLaws.{in_items, on_err}
use Rattle.place_tree.proofs.EntryLaws.{entry_kept, entry_filled, entry_node, same_content}
use Rattle.place_tree.proofs.changes.put_in.Goals as goal

pub returns-in_err-put-clause-err : goal.returns-in_err-put-clause-err
returns-in_err-put-clause-err c =
    on_err _ (entry_kept c.args.entries.now.items c.args.n c.index_mut.result.now _
    (in_items c.args.entries.now c.args.n c.requires) c.index_mut.ensures.value
    (same_content c.index_mut.result.now c.put.new.content c.in_err-put.ensures.err))

pub returns-clause-ok : goal.returns-clause-ok
returns-clause-ok c =
    let there = in_items c.args.entries.now c.args.n c.requires in
    let before = entry_node c.args.entries.now.items c.args.n c.index_mut.result.now there c.index_mut.ensures.value in
    entry_filled c.args.entries.now.items c.args.n c.index_mut.result.now c.put.new.content _ there c.index_mut.ensures.value
    (c.in_ok-put.ensures.ok ∙ ap (λ (m : Node). written m.content c.args.at c.args.b) (sym before))
