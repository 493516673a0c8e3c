use Rattle.std.proofs.Common.{◌≡◌, drop}
use Rattle.std.specs.List.{list_all}
use Rattle.file_tree.specs.WellFormed.{is_within_limits}
use Rattle.task.specs.Views.{nodes_of}
use Rattle.task_reader.proofs.limits.are_within_limits.Given as goal

-- those that are left decide it
abbrev pub invariant-loop-node : goal.invariant-loop-node
invariant-loop-node l = list_all is_within_limits (nodes_of (drop l.node-index l.nodes)) ≡ list_all is_within_limits (nodes_of l.nodes)
