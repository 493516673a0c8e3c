use Rattle.std.proofs.Common.{◌≡◌}
use Rattle.page.proofs.board.box_block.Given as goal

abbrev pub invariant-loop-row : goal.invariant-loop-row
invariant-loop-row l = l.block.room ≡ l.initial.block.room
