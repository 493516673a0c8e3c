use Rattle.std.proofs.Common.{◌≡◌}
use Rattle.explore.proofs.attacks.Growing.add_uses.Given as goal

-- the number stays
abbrev pub invariant-loop-row : goal.invariant-loop-row
invariant-loop-row l = l.self ≡ l.number
