use Rattle.std.proofs.Common.{◌≡◌, ◌∙◌, ap, sym, Some, List, [], ◌∷◌, rules, tests}
use Rattle.std.proofs.lemmas.Iterator.{YieldsList-from_slice}
use Rattle.std.specs.List.{list_all}
use Rattle.checker.specs.Asked.{is_rule_kept}
use Rattle.std.specs.Prelude.{Option, option_map}
use Rattle.certificate.specs.Views.{bound_of}
use Rattle.certificate.specs.declared.bounds.Bound.{Bound as BoundCode}
use Rattle.rules.specs.Rules.{Test, least_broken}
use Rattle.rules.specs.Rules as rules_of
use Rattle.checker.specs.Findings.{tests_with}
use Rattle.checker.specs.PointViews.{expansion_of, instruction_of_point, tests_of}
use Rattle.checker.specs.declared.asked.AskedPoint.{AskedPoint}
use Rattle.checker.specs.RuleViews.{rule_number}
use Rattle.checker.proofs.Folds.{all_seen}
use Rattle.checker.proofs.OneByOne.{marked_kept, not_true, unasked, unmarked, with_is, without_is}
use Rattle.checker.proofs.at_once.keeps_all.Goals as goal

with_bound : (at : AskedPoint) (b : BoundCode) → at.bound ≡ Some b
    → tests_of at ≡ rules_of.tests at.of.now.task.now (expansion_of at.of.now) at.of.now.program at.point (instruction_of_point at) (bound_of b)
with_bound at b is =
    let of = at.of.now in
    ap (λ (o : Option BoundCode). tests_with of.task.now (expansion_of of) of.program at.point (Some (instruction_of_point at)) (option_map bound_of o)) is
    ∙ with_is of.task.now (expansion_of of) of.program at.point (instruction_of_point at) (bound_of b)

pub returns-in-None : goal.returns-in-None
returns-in-None c = λ later.
    let at = c.args.at.now in
    let of = at.of.now in
    ap least_broken
    (ap (λ (o : Option BoundCode). tests_with of.task.now (expansion_of of) of.program at.point (Some (instruction_of_point at)) (option_map bound_of o)) c.in-None.is
    ∙ without_is of.task.now (expansion_of of) of.program at.point (instruction_of_point at))
    ∙ unasked of.task.now (expansion_of of) of.program at.point (not_true _ later)

pub returns-then-not-at : goal.returns-then-not-at
returns-then-not-at c = λ plain.
    let at = c.args.at.now in
    let of = at.of.now in
    ap least_broken (with_bound at c.in-Some.bound c.in-Some.is) ∙ c.keeps_first.ensures c.if-keeps_first.true
    ∙ unmarked of.task.now (expansion_of of) of.program at.point (instruction_of_point at) (bound_of c.in-Some.bound) (sym of.marks ∙ not_true _ plain)

pub returns-else-not-at : goal.returns-else-not-at
returns-else-not-at c = λ kept.
    let at = c.args.at.now in
    let of = at.of.now in
    let each = all_seen (is_rule_kept (tests_of at)) rule_number _ _ _ _ c.all.ensures.ran (YieldsList-from_slice _ c.iter.ensures.rest) (λ x b q k. search (rules, tests)) in
    ap least_broken (with_bound at c.in-Some.bound c.in-Some.is) ∙ c.keeps_first.ensures c.if-keeps_first.true
    ∙ marked_kept of.task.now (expansion_of of) of.program at.point (instruction_of_point at) (bound_of c.in-Some.bound)
    (ap (λ (ts : List Test). list_all (is_rule_kept ts) (17 ∷ 18 ∷ 19 ∷ 20 ∷ 21 ∷ 22 ∷ [])) (sym (with_bound at c.in-Some.bound c.in-Some.is)) ∙ sym each ∙ kept)
