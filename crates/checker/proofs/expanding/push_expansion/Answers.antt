use Rattle.std.proofs.Common.{ap, sym, ◌∙◌, subst}
use Rattle.certificate.specs.Bounds.{has_authorities, tells_further}
use Rattle.certificate.specs.Growths.{grown, then_grown}
use Rattle.certificate.specs.GrowthViews.{Grows}
use Rattle.certificate.specs.Lines.{rest_lines}
use Rattle.rules.specs.Expansions.{expansion}
use Rattle.certificate.proofs.Growths.{by_keeps}
use Rattle.checker.proofs.Along.{failed_first, lines_grown, passed_on, same_authorities, same_telling}
use Rattle.checker.proofs.expanding.push_expansion.Goals as goal

pub returns-in_err-push_expanded-clause-grows : goal.returns-in_err-push_expanded-clause-grows
returns-in_err-push_expanded-clause-grows c =
    failed_first c.from_residual.result c.in_err-push_expanded.field-0.0 c.push_expanded.new.expanded _
    (grown (rest_lines c.args.cert.now)) _ (passed_on c.from_residual.result c.in_err-push_expanded.field-0.0 c.from_residual.ensures)
    c.in_err-push_expanded.ensures.grows (lines_grown c.args.task.now c.args.cert.now c.args.expanded.now)

pub push_expanded-requires : goal.push_expanded-requires
push_expanded-requires c = ap tells_further c.requires ∙ same_telling c.args.cert.now.version

pub push_rest-requires-clause-authorities : goal.push_rest-requires-clause-authorities
push_rest-requires-clause-authorities c =
    let cert = c.args.cert.now in
    ap has_authorities (by_keeps (expansion c.args.task.now cert).points c.args.expanded.now c.push_expanded.new.expanded c.in_ok-push_expanded.ensures.grows ∙ c.requires)
    ∙ same_authorities cert.version

pub push_rest-requires-clause-further : goal.push_rest-requires-clause-further
push_rest-requires-clause-further c =
    let cert = c.args.cert.now in
    ap tells_further (by_keeps (expansion c.args.task.now cert).points c.args.expanded.now c.push_expanded.new.expanded c.in_ok-push_expanded.ensures.grows ∙ c.requires)
    ∙ same_telling cert.version

pub returns-clause-grows : goal.returns-clause-grows
returns-clause-grows c =
    subst (Grows c.push_rest.result c.push_rest.new.expanded)
    (sym (lines_grown c.args.task.now c.args.cert.now c.args.expanded.now ∙ ap (then_grown (grown (rest_lines c.args.cert.now))) c.in_ok-push_expanded.ensures.grows))
    c.push_rest.ensures
