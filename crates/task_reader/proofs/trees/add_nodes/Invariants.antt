use Rattle.std.proofs.Common.{◌≡◌, drop}
use Rattle.task_reader.specs.IndexViews.{IsIndex}
use Rattle.task_reader.specs.Reading.{tree_from}
use Rattle.task.specs.Views.{nodes_of}
use Rattle.task_reader.specs.WrittenViews.{nodes_seen}
use Rattle.task_reader.proofs.trees.add_nodes.Given as goal

-- the tree so far, which is indexed, and then the nodes that are left
abbrev pub invariant-loop-node : goal.invariant-loop-node
invariant-loop-node l =
    (tree_from (nodes_of l.fn.tree.nodes.items) (nodes_seen l.written) ≡ tree_from (nodes_of l.tree.nodes.items) (nodes_seen (drop l.node-index l.written)))
    × IsIndex l.tree.numbers (nodes_of l.tree.nodes.items)
