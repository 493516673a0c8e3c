use Rattle.std.proofs.Common.{◌≡◌, ◌≤◌, length, take}
use Rattle.task.specs.Views.{nodes_of}
use Rattle.simulator.specs.Starts.{AreNumbers}
use Rattle.simulator.proofs.building.build_tree.Given as goal

-- so many nodes are made
abbrev pub invariant-loop-made : goal.invariant-loop-made
invariant-loop-made g l = record {
  some : 1 ≤ l.made;
  within : l.made ≤ length l.nodes;
  nodes : g.T.Tree.nodes l.tree ≡ take l.made (nodes_of l.nodes);
  count : length l.numbers.items ≡ l.made;
  numbers : AreNumbers l.numbers.items;
}
