use Rattle.std.proofs.Common.{◌≡◌}
use Rattle.explore.proofs.attacks.deeds_by.Given as goal

-- the number stays
abbrev pub invariant-loop-name : goal.invariant-loop-name
invariant-loop-name l = l.growing ≡ l.number
