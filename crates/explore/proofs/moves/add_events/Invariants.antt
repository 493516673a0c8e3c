use Rattle.std.proofs.Common.{◌≡◌, ◌++◌, map, take}
use Rattle.explore.specs.Broken.{own_moves}
use Rattle.explore.specs.Moves.{step_of}
use Rattle.explore.specs.MoveViews.{move_of}
use Rattle.explore.proofs.moves.add_events.Given as goal

-- a step is added for each byte so far
abbrev pub invariant-loop-input : goal.invariant-loop-input
invariant-loop-input l = map move_of l.moves.items ≡ map move_of l.initial.moves.items ++ own_moves (map (step_of l.process) (take l.input-index l.bytes))
