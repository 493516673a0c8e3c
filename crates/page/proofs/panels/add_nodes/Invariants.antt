use Rattle.std.proofs.Common.{◌≡◌}
use Rattle.page.proofs.panels.add_nodes.Given as goal

abbrev pub invariant-loop-line : goal.invariant-loop-line
invariant-loop-line l = l.block.room ≡ l.initial.block.room
