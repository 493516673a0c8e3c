use Rattle.std.proofs.Common.{◌≡◌}
use Rattle.page.proofs.board.add_programs.Given as goal

abbrev pub invariant-loop-at : goal.invariant-loop-at
invariant-loop-at l = l.board.strip ≡ l.initial.board.strip
