use Rattle.std.proofs.Common.{◌≡◌, map}
use Rattle.rules.specs.Expansions.{expansion}
use Rattle.checker.specs.FindingViews.{broken_rule_of}
use Rattle.checker.specs.Findings.{findings_of_programs}
use Rattle.checker.proofs.findings.all_findings.Given as goal

-- what is found in the programs so far
abbrev pub invariant-loop-program : goal.invariant-loop-program
invariant-loop-program l = map broken_rule_of l.found.items ≡ findings_of_programs l.task (expansion l.task l.cert) l.program
