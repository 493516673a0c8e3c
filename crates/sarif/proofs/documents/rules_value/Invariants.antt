use Rattle.std.proofs.Common.{◌≡◌, map, take}
use Rattle.serde_json.specs.View.{view}
use Rattle.sarif.specs.Documents.{rule_json}
use Rattle.sarif.specs.LogViews.{rule_seen}
use Rattle.sarif.proofs.documents.rules_value.Given as goal

-- a value for each rule so far
abbrev pub invariant-loop-rule : goal.invariant-loop-rule
invariant-loop-rule l = map view l.values.items ≡ map rule_json (map rule_seen (take l.rule-index l.rules))
