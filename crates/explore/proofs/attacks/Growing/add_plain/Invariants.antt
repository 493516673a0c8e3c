use Rattle.std.proofs.Common.{◌≡◌}
use Rattle.explore.proofs.attacks.Growing.add_plain.Given as goal

-- the number stays
abbrev pub invariant-loop-byte : goal.invariant-loop-byte
invariant-loop-byte l = l.self ≡ l.number

abbrev pub invariant-loop-sent : goal.invariant-loop-sent
invariant-loop-sent l = l.self ≡ l.number
