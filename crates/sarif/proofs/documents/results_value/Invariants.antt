use Rattle.std.proofs.Common.{◌≡◌, map, take}
use Rattle.serde_json.specs.View.{view}
use Rattle.sarif.specs.Documents.{finding_json}
use Rattle.sarif.specs.LogViews.{finding_seen, rule_seen}
use Rattle.sarif.proofs.documents.results_value.Given as goal

-- a value for each finding so far
abbrev pub invariant-loop-finding : goal.invariant-loop-finding
invariant-loop-finding l =
    map view l.values.items ≡ map (finding_json l.uri (map rule_seen l.log.rules.items)) (map finding_seen (take l.finding-index l.log.findings.items))
