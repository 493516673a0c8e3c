use Rattle.std.proofs.Common.{map}
use Rattle.explore.specs.Broken.{BreaksSomething}
use Rattle.explore.specs.MoveViews.{move_of}
use Rattle.explore.proofs.shrinking.shrink_by.Given as goal

-- what is left breaks something, if all did
abbrev pub invariant-loop : goal.invariant-loop
invariant-loop l = BreaksSomething l.task (map move_of l.fn.moves.items) → BreaksSomething l.task (map move_of l.kept.items)
