use Rattle.std.proofs.Common.{◌≡◌}
use Rattle.explore.proofs.attacks.Growing.add_name.Given as goal

-- the number stays
abbrev pub invariant-loop-target : goal.invariant-loop-target
invariant-loop-target l = l.self ≡ l.fn.self
