use Rattle.std.specs.Prelude.{map, option_map, take}
use Rattle.checker.specs.FindingViews.{broken_rule_of}
use Rattle.explain.proofs.Tellings.{ToldSoFar}
use Rattle.explain.proofs.refusing.add_findings.Given as goal

-- those so far are told
abbrev pub invariant-loop-finding : goal.invariant-loop-finding
invariant-loop-finding l =
    ToldSoFar l.scene.task.now l.scene.cert.now (map broken_rule_of l.found) l.fn.page l.page (option_map broken_rule_of l.last) (map broken_rule_of (take l.finding-index l.found))
