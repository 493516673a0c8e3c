use Rattle.std.proofs.Common.{◌≡◌, ◌∙◌, Bool, Some, subst, sym}
use Rattle.certificate.specs.Views.{bound_of}
use Rattle.texts.specs.Views.{name_of}
use Rattle.certificate.specs.declared.bounds.Bound.{Bound as BoundCode}
use Rattle.checker.specs.Asked.{is_rule_kept}
use Rattle.checker.specs.PointViews.{expansion_of, instruction_of_point, tests_by}
use Rattle.checker.specs.RuleViews.{rule_number}
use Rattle.checker.specs.declared.asked.AskedPoint.{AskedPoint}
use Rattle.checker.specs.declared.rule.Rule.{Rule}
use Rattle.checker.proofs.OneByOne.{at_1, at_2, at_3, at_16, at_17, at_call, at_taking, of_authority}
use Rattle.checker.proofs.keeping.keeps_with.Goals as goal

by_rule : (at : AskedPoint) (b : BoundCode) (result : Bool) (rule is : Rule) → rule ≡ is → result ≡ is_rule_kept (tests_by at (Some (bound_of b))) (rule_number is)
    → result ≡ is_rule_kept (tests_by at (Some (bound_of b))) (rule_number rule)
by_rule at b result rule is same = subst (λ r. result ≡ is_rule_kept (tests_by at (Some (bound_of b))) (rule_number r)) (sym same)

pub returns-in-StartsWithin : goal.returns-in-StartsWithin
returns-in-StartsWithin c =
    let at = c.args.at.now in
    let of = at.of.now in
    by_rule at c.args.bound.now c.starts_within.result c.args.rule _ c.in-StartsWithin.is
    (c.starts_within.ensures ∙ at_1 of.task.now (expansion_of of) of.program at.point (instruction_of_point at) (bound_of c.args.bound.now))

pub returns-in-SuccessesWithin : goal.returns-in-SuccessesWithin
returns-in-SuccessesWithin c =
    let at = c.args.at.now in
    let of = at.of.now in
    by_rule at c.args.bound.now c.successes_arrive.result c.args.rule _ c.in-SuccessesWithin.is
    (c.successes_arrive.ensures ∙ at_2 of.task.now (expansion_of of) of.program at.point (instruction_of_point at) (bound_of c.args.bound.now) (name_of of.name) of.named)

pub returns-in-ErrorsWithin : goal.returns-in-ErrorsWithin
returns-in-ErrorsWithin c =
    let at = c.args.at.now in
    let of = at.of.now in
    by_rule at c.args.bound.now c.error_arrives.result c.args.rule _ c.in-ErrorsWithin.is
    (c.error_arrives.ensures ∙ at_3 of.task.now (expansion_of of) of.program at.point (instruction_of_point at) (bound_of c.args.bound.now) (name_of of.name) of.named)

pub returns-in-OfCall : goal.returns-in-OfCall
returns-in-OfCall c =
    let at = c.args.at.now in
    let of = at.of.now in
    by_rule at c.args.bound.now c.keeps_if_call.result c.args.rule _ c.in-OfCall.is
    (c.keeps_if_call.ensures ∙ at_call of.task.now (expansion_of of) of.program at.point (instruction_of_point at) (bound_of c.args.bound.now) c.in-OfCall.rule)

pub returns-in-LeadsToBounds : goal.returns-in-LeadsToBounds
returns-in-LeadsToBounds c =
    let at = c.args.at.now in
    let of = at.of.now in
    by_rule at c.args.bound.now c.leads_to_bounds.result c.args.rule _ c.in-LeadsToBounds.is
    (c.leads_to_bounds.ensures ∙ at_16 of.task.now (expansion_of of) of.program at.point (instruction_of_point at) (bound_of c.args.bound.now) (name_of of.name) of.named)

pub returns-in-BoundsOutside : goal.returns-in-BoundsOutside
returns-in-BoundsOutside c =
    let at = c.args.at.now in
    let of = at.of.now in
    by_rule at c.args.bound.now c.stays_outside.result c.args.rule _ c.in-BoundsOutside.is
    (c.stays_outside.ensures ∙ at_17 of.task.now (expansion_of of) of.program at.point (instruction_of_point at) (bound_of c.args.bound.now))

pub returns-in-TakesWithin : goal.returns-in-TakesWithin
returns-in-TakesWithin c =
    let at = c.args.at.now in
    let of = at.of.now in
    by_rule at c.args.bound.now c.takes_within.result c.args.rule _ c.in-TakesWithin.is
    (c.takes_within.ensures ∙ at_taking of.task.now of.cert.now of.program at.point (instruction_of_point at) (bound_of c.args.bound.now))

pub returns-in-OfAuthority : goal.returns-in-OfAuthority
returns-in-OfAuthority c =
    let at = c.args.at.now in
    let of = at.of.now in
    by_rule at c.args.bound.now c.keeps_authority_rule.result c.args.rule _ c.in-OfAuthority.is
    (c.keeps_authority_rule.ensures ∙ of_authority of.task.now of.cert.now of.program at.point (instruction_of_point at) (bound_of c.args.bound.now) c.in-OfAuthority.rule)
