use Rattle.std.proofs.Common.{sym, ◌∙◌, ap}
use Rattle.file_tree.specs.Changes.{written}
use Rattle.link_tree.specs.Links.{TreeEntry}
use Rattle.link_tree.proofs.LinkEntryLaws.{entry_link}
use Rattle.file_tree.proofs.VectorLaws.{in_items, on_err}
use Rattle.link_tree.proofs.LinkEntryChanges.{entry_refilled, same_content}
use Rattle.link_tree.proofs.changes.put_at.Goals as goal

pub returns-in_err-put-clause-err : goal.returns-in_err-put-clause-err
returns-in_err-put-clause-err c = on_err _
    (same_content c.args.entries.now.items c.args.n c.index_mut.result.now
    (in_items c.args.entries.now c.args.n c.requires.there) c.index_mut.ensures.value c.put.new.content c.in_err-put.ensures.err)

pub returns-clause-ok : goal.returns-clause-ok
returns-clause-ok c =
    entry_refilled c.args.entries.now.items c.args.n c.index_mut.result.now (in_items c.args.entries.now c.args.n c.requires.there) c.index_mut.ensures.value c.put.new.content _
    (c.in_ok-put.ensures.ok ∙ ap (λ (l : TreeEntry). written l.content c.args.at c.args.b)
    (sym (entry_link c.args.entries.now.items c.args.n c.index_mut.result.now
    (in_items c.args.entries.now c.args.n c.requires.there) c.index_mut.ensures.value)))
