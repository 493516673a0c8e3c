use Rattle.std.proofs.Common.{◌∙◌, ◌++◌, append-nil, ap, length, map, sym}
use Rattle.rules.specs.Expansions.{expansion}
use Rattle.task.specs.Plans.{programs_of_plan}
use Rattle.checker.specs.FindingViews.{broken_rule_of}
use Rattle.checker.proofs.Apart.{along_empty}
use Rattle.checker.proofs.findings.add_program.Goals as goal

pub returns-in-None : goal.returns-in-None
returns-in-None c =
    sym (append-nil (map broken_rule_of c.args.found.now.items))
    ∙ ap (λ l. map broken_rule_of c.args.found.now.items ++ l)
    (sym (along_empty c.args.task.now (expansion c.args.task.now c.args.cert.now) c.args.program (length (programs_of_plan c.args.task.now c.args.program)) (c.new.ensures.none c.in-None.is)))
