use Rattle.std.proofs.Common.{◌≡◌, ◌∙◌, subst, sym}
use Rattle.checker.specs.Asked.{is_rule_kept}
use Rattle.checker.specs.PointViews.{expansion_of}
use Rattle.checker.specs.RuleViews.{rule_number}
use Rattle.checker.proofs.OneByOne.{of_authority_without, untested}
use Rattle.rules.specs.Rules.{tests_without}
use Rattle.checker.proofs.keeping.keeps_without.Goals as goal

pub returns-in-OfAuthority : goal.returns-in-OfAuthority
returns-in-OfAuthority c =
    let at = c.args.at.now in
    let of = at.of.now in
    subst (λ r. c.keeps_authority_rule.result ≡ is_rule_kept (tests_without of.task.now (expansion_of of) of.program at.point) (rule_number r)) (sym c.in-OfAuthority.is)
    (c.keeps_authority_rule.ensures ∙ of_authority_without of.task.now of.cert.now of.program at.point c.in-OfAuthority.rule)

pub returns-in-StartsWithin : goal.returns-in-StartsWithin
returns-in-StartsWithin c =
    let at = c.args.at.now in
    let of = at.of.now in
    untested of.task.now (expansion_of of) of.program at.point c.args.rule c.in-StartsWithin.is
