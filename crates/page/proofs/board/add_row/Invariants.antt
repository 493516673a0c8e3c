use Rattle.std.proofs.Common.{◌≡◌}
use Rattle.page.proofs.board.add_row.Given as goal

abbrev pub invariant-loop-note : goal.invariant-loop-note
invariant-loop-note l = l.block.room ≡ l.initial.block.room
