use Rattle.std.proofs.Common.{◌≡◌, ℕ, ◌+◌, ◌<◌, ◌≤◌, ◌⊎◌, inl, inr, arith, subst}
use Rattle.std.specs.Prelude.{None}
use Rattle.kernel.proofs.Fresh.{lt_or_le}
use Rattle.rules.specs.Expansions.{expansion}
use Rattle.rules.specs.Verdicts.{MeetsRules, found_at}
use Rattle.rules.proofs.Sound.{confining, sound}
use Rattle.checker.proofs.PastEnds.{meets}
use Rattle.checker.proofs.verdicts.check.Goals as goal

pub loop-number-preserved : goal.loop-number-preserved
loop-number-preserved c = λ p k below. at p k below (lt_or_le p c.loop-number.number)
  where
    at : (p k : ℕ) → p < c.loop-number.number + 1 → (p < c.loop-number.number) ⊎ (c.loop-number.number ≤ p) → found_at c.args.task.now (expansion c.args.task.now c.args.cert.now) p k ≡ None
    at p k below (inl before) = c.loop-number.invariant p k before
    at p k below (inr from) =
        let same : c.loop-number.number ≡ p = omega (arith, below, from) in
        subst (λ n. found_at c.args.task.now (expansion c.args.task.now c.args.cert.now) n k ≡ None) same (c.in_default.ensures k)

all_meet : (c : goal.After-loop-number) → MeetsRules c.args.task.now (expansion c.args.task.now c.args.cert.now)
all_meet c =
    meets c.args.task.now (expansion c.args.task.now c.args.cert.now) c.programs-number-end.result.now c.loop-number.number c.programs-number-end.ensures.programs
    c.loop-number-test.false c.loop-number.invariant

pub returns-clause-exact : goal.returns-clause-exact
returns-clause-exact c = all_meet c

pub returns-clause-sound : goal.returns-clause-sound
returns-clause-sound c = λ yes none. sound c.args.task.now (expansion c.args.task.now c.args.cert.now) c.programs-number-end.ensures.valid none (all_meet c)

pub returns-clause-confined : goal.returns-clause-confined
returns-clause-confined c = λ yes. confining c.args.task.now (expansion c.args.task.now c.args.cert.now) c.programs-number-end.ensures.valid (all_meet c)
