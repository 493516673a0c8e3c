use Rattle.std.proofs.Common.{◌≡◌, ◌++◌, drop}
use Rattle.link_tree.specs.LinkViews.{links_of}
use Rattle.link_tree.proofs.copies.copy_entries.Given as goal

-- what is copied, and then what is left
abbrev pub invariant-loop-entry : goal.invariant-loop-entry
invariant-loop-entry l = links_of l.copies.items ++ links_of (drop l.entry-index l.entries) ≡ links_of l.entries
