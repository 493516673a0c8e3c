use Rattle.std.proofs.Common.{◌≡◌, drop}
use Rattle.file_tree.specs.Nodes.{has_below}
use Rattle.place_tree.specs.EntryViews.{nodes_of}
use Rattle.place_tree.proofs.entries.holds_below.Given as goal

-- what is left decides it
abbrev pub invariant-loop-entry : goal.invariant-loop-entry
invariant-loop-entry l = has_below (nodes_of (drop l.entry-index l.entries)) l.place ≡ has_below (nodes_of l.entries) l.place
