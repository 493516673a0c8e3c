use Rattle.std.proofs.Common.{◌≡◌, map, take}
use Rattle.explore.specs.MoveViews.{move_of}
use Rattle.review.specs.PlayedViews.{move_played}
use Rattle.review.proofs.played.played_moves.Given as goal

-- the moves so far
abbrev pub invariant-loop-next : goal.invariant-loop-next
invariant-loop-next l = map move_played l.all.items ≡ map move_of (take l.next-index l.moves)
