use Rattle.std.proofs.Common.{sym, ◌∙◌, ap}
use Rattle.link_tree.specs.Links.{holder}
use Rattle.link_tree.specs.LinkViews.{stand_of}
use Rattle.link_tree.proofs.LinkEntryLaws.{entry_parent, parent_in_entries}
use Rattle.link_tree.proofs.links.parent_in.Goals as goal

pub returns-in-Root-clause-found : goal.returns-in-Root-clause-found
returns-in-Root-clause-found c = sym (entry_parent c.args.entries.now c.requires.linked c.args.n c.index-entries-n.result c.requires.there
    c.index-entries-n.is ∙ ap (λ s. holder (stand_of s)) c.in-Root.is)

pub returns-in-In-clause-found : goal.returns-in-In-clause-found
returns-in-In-clause-found c = sym (entry_parent c.args.entries.now c.requires.linked c.args.n c.index-entries-n.result c.requires.there
    c.index-entries-n.is ∙ ap (λ s. holder (stand_of s)) c.in-In.is)

pub returns-in-In-clause-there : goal.returns-in-In-clause-there
returns-in-In-clause-there c = parent_in_entries c.args.entries.now c.requires.linked c.args.n c.in-In.parent
    (entry_parent c.args.entries.now c.requires.linked c.args.n c.index-entries-n.result c.requires.there c.index-entries-n.is ∙ ap (λ s. holder (stand_of s)) c.in-In.is)

pub returns-in-Out-clause-found : goal.returns-in-Out-clause-found
returns-in-Out-clause-found c = sym (entry_parent c.args.entries.now c.requires.linked c.args.n c.index-entries-n.result c.requires.there
    c.index-entries-n.is ∙ ap (λ s. holder (stand_of s)) c.in-Out.is)
