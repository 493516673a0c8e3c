use Rattle.std.proofs.Common.{◌<◌, ℕ, None, map}
use Rattle.std.specs.List.{remove}
use Rattle.explore.specs.Broken.{Breaks}
use Rattle.explore.specs.MoveViews.{move_of}
use Rattle.explore.proofs.shrinking.fewer.Given as goal

-- nothing is broken without one of the moves so far
abbrev pub invariant-loop-at : goal.invariant-loop-at
invariant-loop-at l = (k : ℕ) → k < l.at → Breaks l.task (remove (map move_of l.moves) k) None
