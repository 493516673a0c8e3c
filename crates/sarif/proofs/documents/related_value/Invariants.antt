use Rattle.std.proofs.Common.{◌≡◌, map, take}
use Rattle.std.specs.Prelude.{Some}
use Rattle.serde_json.specs.View.{view}
use Rattle.sarif.specs.Documents.{location_json}
use Rattle.sarif.specs.LogViews.{place_seen}
use Rattle.sarif.proofs.documents.related_value.Given as goal

-- a value for each place so far
abbrev pub invariant-loop-place : goal.invariant-loop-place
invariant-loop-place l = map view l.values.items ≡ map (λ place. location_json l.uri (Some place)) (map place_seen (take l.place-index l.places))
