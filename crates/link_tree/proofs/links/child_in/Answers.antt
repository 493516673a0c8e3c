use Rattle.std.proofs.Common.{sym, ◌∙◌}
use Rattle.link_tree.proofs.LinkEntryLaws.{entry_child, child_in_entries}
use Rattle.link_tree.proofs.links.child_in.Goals as goal

pub returns-clause-found : goal.returns-clause-found
returns-clause-found c = c.copied.ensures ∙ c.get.ensures.value
    ∙ sym (entry_child c.args.entries.now c.requires.linked c.args.dir c.index-entries-dir.result c.requires.there c.index-entries-dir.is
    c.args.name.now)

pub returns-clause-there : goal.returns-clause-there
returns-clause-there c = child_in_entries c.args.entries.now c.requires.linked c.copied.result c.args.dir c.args.name.now
    (c.copied.ensures ∙ c.get.ensures.value ∙ sym (entry_child c.args.entries.now c.requires.linked c.args.dir c.index-entries-dir.result c.requires.there c.index-entries-dir.is c.args.name.now))
