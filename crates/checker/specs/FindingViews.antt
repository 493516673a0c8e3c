-- What findings of the code stand for.
use Rattle.checker.specs.Findings.{BrokenRule}
use Rattle.checker.specs.RuleViews.{rule_number}
use Rattle.checker.specs.declared.findings.BrokenRule.{BrokenRule as BrokenRuleCode}

abbrev pub broken_rule_of : BrokenRuleCode → BrokenRule
broken_rule_of f = record { program = f.program; point = f.point; rule = rule_number f.rule }
