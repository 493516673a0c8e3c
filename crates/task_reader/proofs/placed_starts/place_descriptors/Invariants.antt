use Rattle.std.proofs.Common.{◌≡◌, ◌++◌, map, drop, option_map}
use Rattle.task_reader.specs.PlacedViews.{placed_descriptor}
use Rattle.task_reader.specs.Reading.{descriptors_placed}
use Rattle.task.specs.Views.{nodes_of}
use Rattle.task_reader.specs.WrittenViews.{descriptor_seen}
use Rattle.task_reader.proofs.placed_starts.place_descriptors.Given as goal

-- the descriptors so far, and then those that are left
abbrev pub invariant-loop-descriptor : goal.invariant-loop-descriptor
invariant-loop-descriptor l =
    descriptors_placed (nodes_of l.tree.nodes.items) (map descriptor_seen l.written)
    ≡ option_map (λ rest. map placed_descriptor l.descriptors.items ++ rest)
    (descriptors_placed (nodes_of l.tree.nodes.items) (map descriptor_seen (drop l.descriptor-index l.written)))
