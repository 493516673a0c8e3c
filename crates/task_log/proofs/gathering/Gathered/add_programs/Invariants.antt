use Rattle.std.proofs.Common.{◌≡◌, map}
use Rattle.sarif.specs.LogViews.{finding_seen}
use Rattle.task_log.specs.Errors.{errors_of}
use Rattle.task_log.proofs.gathering.Gathered.add_programs.Given as goal

-- no error more
abbrev pub invariant-loop-number : goal.invariant-loop-number
invariant-loop-number l = errors_of (map finding_seen l.self.findings.items) ≡ errors_of (map finding_seen l.fn.self.findings.items)
