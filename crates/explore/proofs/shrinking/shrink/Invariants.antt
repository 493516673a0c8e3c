use Rattle.std.proofs.Common.{map, vec_len}
use Rattle.explore.specs.Broken.{BreaksSomething}
use Rattle.explore.specs.MoveViews.{move_of}
use Rattle.explore.proofs.shrinking.shrink.Given as goal

-- what is left breaks something, if all did
abbrev pub invariant-loop-length : goal.invariant-loop-length
invariant-loop-length l = BreaksSomething l.task (map move_of l.fn.moves.items) → BreaksSomething l.task (map move_of l.kept.items)

abbrev pub decreases-loop-length : goal.decreases-loop-length
decreases-loop-length l = l.length

abbrev pub invariant-loop-kept : goal.invariant-loop-kept
invariant-loop-kept l = BreaksSomething l.task (map move_of l.fn.moves.items) → BreaksSomething l.task (map move_of l.kept.items)

abbrev pub decreases-loop-kept : goal.decreases-loop-kept
decreases-loop-kept l = vec_len l.kept
