use Rattle.std.proofs.Common.{◌≡◌, map, ◌++◌, take}
use Rattle.sarif.specs.LogViews.{finding_seen}
use Rattle.task_log.specs.Errors.{errors_of, ids_of}
use Rattle.checker.specs.FindingViews.{broken_rule_of}
use Rattle.task_log.proofs.gathering.Gathered.add_broken.Given as goal

-- an error for each of those so far
abbrev pub invariant-loop-one : goal.invariant-loop-one
invariant-loop-one l =
    errors_of (map finding_seen l.self.findings.items)
    ≡ errors_of (map finding_seen l.fn.self.findings.items) ++ ids_of (map broken_rule_of (take l.one-index l.found))
