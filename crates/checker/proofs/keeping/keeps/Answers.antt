use Rattle.std.proofs.Common.{◌∙◌, ap, sym, Some}
use Rattle.std.specs.Prelude.{option_map, Option}
use Rattle.certificate.specs.Views.{bound_of}
use Rattle.certificate.specs.declared.bounds.Bound.{Bound as BoundCode}
use Rattle.rules.specs.Rules.{Test}
use Rattle.std.specs.Prelude.{List}
use Rattle.checker.specs.Asked.{is_rule_kept}
use Rattle.checker.specs.Findings.{tests_with}
use Rattle.checker.specs.PointViews.{expansion_of, instruction_of_point}
use Rattle.checker.specs.RuleViews.{rule_number}
use Rattle.checker.proofs.OneByOne.{without_is}
use Rattle.checker.proofs.keeping.keeps.Goals as goal

pub returns-in-None : goal.returns-in-None
returns-in-None c =
    let at = c.args.at.now in
    let of = at.of.now in
    c.keeps_without.ensures
    ∙ ap (λ (ts : List Test). is_rule_kept ts (rule_number c.args.rule))
    (sym (without_is of.task.now (expansion_of of) of.program at.point (instruction_of_point at))
    ∙ ap (λ (o : Option BoundCode). tests_with of.task.now (expansion_of of) of.program at.point (Some (instruction_of_point at)) (option_map bound_of o)) (sym c.in-None.is))
