use Rattle.std.proofs.Common.{◌≡◌, ◌+◌, ◌<◌, ◌≤◌, ◌⊎◌, inl, inr, ℕ, length, ap, sym, subst, arith, ◌∙◌}
use Rattle.std.specs.Prelude.{None}
use Rattle.kernel.proofs.Fresh.{lt_or_le}
use Rattle.instruction_set.specs.Views.{instruction_of}
use Rattle.std.proofs.Math.ListN.{length-map}
use Rattle.std.proofs.lemmas.Option.{slice_get_past}
use Rattle.task.specs.Plans.{programs_of_plan}
use Rattle.checker.specs.PointViews.{expansion_of}
use Rattle.rules.specs.Rules.{least_broken}
use Rattle.rules.specs.Verdicts.{found_at}
use Rattle.checker.proofs.OneByOne.{found_is}
use Rattle.checker.proofs.PastEnds.{no_instruction}
use Rattle.checker.proofs.Standing.{bound_along}
use Rattle.checker.proofs.verdicts.first_in.Goals as goal

pub loop-point-init : goal.loop-point-init
loop-point-init c = (λ k below. absurd (omega arith), c.first_bound-bound.ensures)

pub loop-point-preserved : goal.loop-point-preserved
loop-point-preserved c = (λ k below. here k below (lt_or_le k c.loop-point.point), bound_along c.at-at.result c.args.of.now c.loop-point.point c.at-at.ensures.program c.at-at.ensures.point)
  where
    here : (k : ℕ) → k < c.loop-point.point + 1 → (k < c.loop-point.point) ⊎ (c.loop-point.point ≤ k)
        → found_at c.args.of.now.task.now (expansion_of c.args.of.now) c.args.of.now.program k ≡ None
    here k below (inl before) = c.loop-point.invariant.0 k before
    here k below (inr from) =
        let of = c.args.of.now in
        let same : c.loop-point.point ≡ k = omega (arith, below, from) in
        subst (λ n. found_at of.task.now (expansion_of of) of.program n ≡ None) same
        (found_is of.task.now (expansion_of of) of.program c.loop-point.point ∙ ap least_broken (sym c.at-at.ensures.tests) ∙ sym c.in_default.ensures)

pub returns-in-Some : goal.returns-in-Some
returns-in-Some c =
    let of = c.args.of.now in
    let found = found_is of.task.now (expansion_of of) of.program c.loop-point.point ∙ ap least_broken (sym c.at-at.ensures.tests) ∙ sym c.in-Some.ensures in (
      ap (found_at of.task.now (expansion_of of) of.program) c.at-at.ensures.point ∙ found,
      λ k below. c.loop-point.invariant.0 k (subst (λ n. k < n) c.at-at.ensures.point below),
    )

pub returns : goal.returns
returns c = λ point. at point (lt_or_le point c.loop-point.point)
  where
    at : (point : ℕ) → (point < c.loop-point.point) ⊎ (c.loop-point.point ≤ point)
        → found_at c.args.of.now.task.now (expansion_of c.args.of.now) c.args.of.now.program point ≡ None
    at point (inl before) = c.loop-point.invariant.0 point before
    at point (inr from) =
        let of = c.args.of.now in
        let many = sym (length-map of.code.now instruction_of) ∙ ap length of.coded in
        no_instruction of.task.now (expansion_of of) of.program point
        (slice_get_past (programs_of_plan of.task.now of.program) point (omega (arith, many, from, c.loop-point-test.false)))
