use Rattle.std.proofs.Common.{◌≡◌, take, drop, []}
use Rattle.texts.specs.Parts.{parts_from}
use Rattle.texts.proofs.parts.first_part.Given as goal

-- what has begun, and what is left
abbrev pub invariant-loop-at : goal.invariant-loop-at
invariant-loop-at l = parts_from l.separator (drop l.at l.text) (take l.at l.text) ≡ parts_from l.separator l.text []
