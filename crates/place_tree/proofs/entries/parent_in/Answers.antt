use Rattle.std.proofs.Common.{sym, ◌∙◌}
use Rattle.place_tree.proofs.EntryLaws.{parent_in_entries}
use Rattle.place_tree.proofs.entries.parent_in.Goals as goal

pub returns-clause-found : goal.returns-clause-found
returns-clause-found c =
    c.find_above.ensures.found
    ∙ sym (parent_in_entries c.args.entries.now c.args.n c.index-entries-n.result c.requires c.index-entries-n.is c.if-not-entry.false (sym c.is_root.ensures ∙ c.if-is_root.false))
