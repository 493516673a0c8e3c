use Rattle.std.proofs.Common.{◌≡◌, ◌++◌, drop, map}
use Rattle.file_tree.specs.Changes.{moved, replaced_at}
use Rattle.place_tree.specs.EntryViews.{nodes_of}
use Rattle.place_tree.proofs.changes.moved_entries.Given as goal

-- what is made and what is left are all
abbrev pub invariant-loop-entry : goal.invariant-loop-entry
invariant-loop-entry l =
    let made = λ (m : _). moved l.from l.to (replaced_at l.to m) in
    nodes_of l.made.items ++ map made (nodes_of (drop l.entry-index l.entries)) ≡ map made (nodes_of l.entries)
