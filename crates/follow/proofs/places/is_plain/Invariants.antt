use Rattle.std.proofs.Common.{◌≡◌, drop}
use Rattle.follow.specs.Places.{is_plain}
use Rattle.follow.proofs.places.is_plain.Given as goal

-- so it is behind each slash so far
abbrev pub invariant-loop-at : goal.invariant-loop-at
invariant-loop-at l = is_plain (drop l.at l.text) ≡ is_plain l.text
