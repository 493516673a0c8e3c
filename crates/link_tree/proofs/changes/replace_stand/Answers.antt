use Rattle.std.proofs.Common.{◌∙◌, ap}
use Rattle.link_tree.specs.Links.{stood}
use Rattle.link_tree.specs.LinkViews.{links_of, stand_of}
use Rattle.file_tree.proofs.VectorLaws.{in_items}
use Rattle.link_tree.proofs.LinkEntryChanges.{entry_stood}
use Rattle.link_tree.proofs.changes.replace_stand.Goals as goal

pub returns-clause-changed : goal.returns-clause-changed
returns-clause-changed c =
    entry_stood c.args.entries.now.items c.args.n c.index_mut.result.now (in_items c.args.entries.now c.args.n c.requires) c.index_mut.ensures.value c.replace.new.dest
    ∙ ap (λ s. stood (links_of c.args.entries.now.items) c.args.n (stand_of s)) c.replace.ensures.after
