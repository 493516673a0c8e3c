use Rattle.std.proofs.Common.{◌≡◌, drop}
use Rattle.file_tree.specs.Places.{at_name}
use Rattle.file_tree.specs.Nodes.{node_from}
use Rattle.place_tree.specs.EntryViews.{nodes_of}
use Rattle.place_tree.proofs.entries.find_child.Given as goal

-- what is left decides it
abbrev pub invariant-loop-i : goal.invariant-loop-i
invariant-loop-i l = node_from l.i (at_name l.dir l.name) (nodes_of (drop l.i l.entries)) ≡ node_from 0 (at_name l.dir l.name) (nodes_of l.entries)
