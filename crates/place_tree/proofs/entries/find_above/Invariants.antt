use Rattle.std.proofs.Common.{◌≡◌, drop}
use Rattle.file_tree.specs.Nodes.{node_from}
use Rattle.file_tree.specs.Places.{above}
use Rattle.place_tree.specs.EntryViews.{nodes_of}
use Rattle.place_tree.proofs.entries.find_above.Given as goal

-- what is left decides it
abbrev pub invariant-loop-i : goal.invariant-loop-i
invariant-loop-i l = node_from l.i (above l.place) (nodes_of (drop l.i l.entries)) ≡ node_from 0 (above l.place) (nodes_of l.entries)
