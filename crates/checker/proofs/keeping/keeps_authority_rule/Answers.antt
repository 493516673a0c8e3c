use Rattle.std.proofs.Common.{◌∙◌, sym}
use Rattle.checker.specs.RuleViews.{keeps_in_authority}
use Rattle.checker.proofs.OneByOne.{first_kept}
use Rattle.checker.proofs.keeping.keeps_authority_rule.Goals as goal

pub returns : goal.returns
returns c =
    let at = c.args.at.now in
    let of = at.of.now in
    c.keeps_in_authority.ensures ∙ (λ k. keeps_in_authority c.args.rule (of.asks k) of.task.now of.cert.now (of.holds k))
    ∙ first_kept of.task.now of.cert.now of.program at.point c.if-at-ne0.false (sym of.marks ∙ c.if-not-of.false) c.args.rule
