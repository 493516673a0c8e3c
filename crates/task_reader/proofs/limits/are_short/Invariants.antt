use Rattle.std.proofs.Common.{◌≡◌, drop}
use Rattle.std.specs.List.{list_all}
use Rattle.task_reader.specs.Reading.{is_short}
use Rattle.task_reader.specs.WrittenViews.{nodes_seen}
use Rattle.task_reader.proofs.limits.are_short.Given as goal

-- those that are left decide it
abbrev pub invariant-loop-node : goal.invariant-loop-node
invariant-loop-node l = list_all is_short (nodes_seen (drop l.node-index l.nodes)) ≡ list_all is_short (nodes_seen l.nodes)
