use Rattle.std.proofs.Common.{◌≡◌, ◌∙◌, sym, true}
use Rattle.certificate.specs.Bounds.{bound_at}
use Rattle.certificate.specs.Views.{bound_of}
use Rattle.texts.specs.Views.{name_of}
use Rattle.checker.specs.PointViews.{expansion_of, instruction_of_point, successes_from}
use Rattle.checker.proofs.Joined.{marks_decide}
use Rattle.checker.proofs.KeptRules.{all_both}
use Rattle.rules.specs.Outcomes.{Outcome, error_outcomes}
use Rattle.rules.specs.Rules.{within_if_there}
use Rattle.std.specs.Prelude.{Bool, is_some}
use Rattle.checker.proofs.at_once.keeps_first.Goals.{else-starts_within, else-successes_arrive, then-starts_within, then-successes_arrive}
use Rattle.checker.proofs.at_once.keeps_first.Goals as goal

pub returns-then-error_arrives : goal.returns-then-error_arrives
returns-then-error_arrives c = λ kept.
    let at = c.args.at.now in
    let of = at.of.now in
    let i = instruction_of_point at in
    let b = bound_of c.args.bound.now in
    let there : Outcome → Bool = λ o. is_some (bound_at (expansion_of of) (name_of of.name) o.point) in
    let within : Outcome → Bool = λ o. within_if_there o.bound (bound_at (expansion_of of) (name_of of.name) o.point) in
    elim c.if-successes_arrive.branch [
      | then-successes_arrive w ↦ elim c.if-starts_within.branch [
        | then-starts_within v ↦
            let succeeds : v.successes_arrive.result ≡ true = cc in
            let fails : w.error_arrives.result ≡ true = cc in
            let good = all_both there within (successes_from at b) (sym v.successes_arrive.ensures ∙ succeeds) in
            let bad = all_both there within (error_outcomes b i) (sym w.error_arrives.ensures ∙ fails) in
            marks_decide of.task.now (expansion_of of) (name_of of.name) of.program at.point b of.named i
            (record {
              starts = sym c.starts_within.ensures ∙ v.if-starts_within.true;
              good = good.1;
              bad = bad.1;
              good_there = good.0;
              bad_there = bad.0;
            })
            (c.keeps_if_call.ensures kept)
        | else-starts_within v ↦ absurd cc
      ]
      | else-successes_arrive w ↦ absurd cc
    ]
