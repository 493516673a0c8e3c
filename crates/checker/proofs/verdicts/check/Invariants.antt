use Rattle.std.proofs.Common.{◌≡◌, ◌<◌, ℕ}
use Rattle.std.specs.Prelude.{None}
use Rattle.rules.specs.Expansions.{expansion}
use Rattle.rules.specs.Verdicts.{found_at}
use Rattle.checker.proofs.verdicts.check.Given as goal

-- nothing is found at any point of the programs so far
abbrev pub invariant-loop-number : goal.invariant-loop-number
invariant-loop-number l = (p k : ℕ) → p < l.number → found_at l.task (expansion l.task l.cert) p k ≡ None
