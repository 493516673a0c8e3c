use Rattle.std.proofs.Common.{◌≡◌, ◌++◌, map}
use Rattle.std.specs.Prelude.{option_map}
use Rattle.certificate.specs.Views.{bound_of}
use Rattle.texts.specs.Views.{name_of}
use Rattle.checker.specs.PointViews.{expansion_of}
use Rattle.rules.specs.Expansions.{bound_there}
use Rattle.checker.specs.FindingViews.{broken_rule_of}
use Rattle.checker.specs.Findings.{findings_before}
use Rattle.checker.proofs.findings.add_points.Given as goal

-- what is found at the points so far is added, and the bound is that of the next
abbrev pub invariant-loop-point : goal.invariant-loop-point
invariant-loop-point l =
    (map broken_rule_of l.found.items ≡ map broken_rule_of l.fn.found.items ++ findings_before l.of.task.now (expansion_of l.of) l.of.program l.point)
    × (option_map bound_of l.bound ≡ bound_there l.of.task.now l.of.cert.now (name_of l.of.name) l.point)
