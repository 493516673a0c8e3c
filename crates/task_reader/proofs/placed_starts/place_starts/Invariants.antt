use Rattle.std.proofs.Common.{◌≡◌, ◌++◌, drop, option_map}
use Rattle.task_reader.specs.PlacedViews.{placed_starts}
use Rattle.task_reader.specs.Reading.{starts_placed}
use Rattle.task.specs.Views.{nodes_of}
use Rattle.task_reader.specs.WrittenViews.{starts_seen}
use Rattle.task_reader.proofs.placed_starts.place_starts.Given as goal

-- the processes so far, and then those that are left
abbrev pub invariant-loop-start : goal.invariant-loop-start
invariant-loop-start l =
    starts_placed (nodes_of l.tree.nodes.items) (starts_seen l.written)
    ≡ option_map (λ rest. placed_starts l.starts.items ++ rest) (starts_placed (nodes_of l.tree.nodes.items) (starts_seen (drop l.start-index l.written)))
