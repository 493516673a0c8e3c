use Rattle.std.proofs.Common.{◌≡◌, map, take}
use Rattle.task_reader.specs.PlacedViews.{placed_descriptor}
use Rattle.task.specs.Views.{first_descriptor_of}
use Rattle.task_reader.proofs.reading.kept_descriptors.Given as goal

-- those before this one are kept
abbrev pub invariant-loop-descriptor : goal.invariant-loop-descriptor
invariant-loop-descriptor l = map first_descriptor_of l.kept.items ≡ map placed_descriptor (take l.descriptor-index l.placed)
