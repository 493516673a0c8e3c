use Rattle.std.proofs.Common.{◌≡◌, take}
use Rattle.task_reader.specs.PlacedViews.{placed_starts}
use Rattle.task.specs.Views.{starts_of}
use Rattle.task_reader.proofs.reading.kept_starts.Given as goal

-- those before this one are kept
abbrev pub invariant-loop-start : goal.invariant-loop-start
invariant-loop-start l = starts_of l.kept.items ≡ placed_starts (take l.start-index l.placed)
