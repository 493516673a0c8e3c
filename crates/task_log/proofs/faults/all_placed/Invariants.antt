use Rattle.std.proofs.Common.{◌≡◌, map, take}
use Rattle.sarif.specs.LogViews.{finding_seen}
use Rattle.task_log.specs.FaultResults.{fault_result}
use Rattle.task_text.specs.FaultViews.{fault_seen}
use Rattle.task_log.proofs.faults.all_placed.Given as goal

-- a result for each fault so far
abbrev pub invariant-loop-found : goal.invariant-loop-found
invariant-loop-found l = map finding_seen l.findings.items ≡ map fault_result (map fault_seen (take l.found-index l.told))
