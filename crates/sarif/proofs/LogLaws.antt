-- Rules as they are seen, and what a log's JSON hasn't.
use Rattle.std.proofs.Common.{◌≡◌, ℕ, List, [], ◌∷◌, Bool, false, not, refl, map}
use Rattle.std.specs.Prelude.{Option, None, Some}
use Rattle.std.specs.List.{position, prefix_len}
use Rattle.std.proofs.lemmas.List.{length-map}
use Rattle.serde_json.specs.Data.{Data}
use Rattle.serde_json.specs.View.{items_of}
use Rattle.serde_json.specs.Written.{has_float, items_have_float, members_have_float}
use Rattle.sarif.specs.Documents.{column_before, finding_json, index_member, line_member, location_json, log_json, rule_json, rule_place}
use Rattle.sarif.specs.Logs.{Finding, Id, Log, Place, Rule as RuleSeen, is_same_id}
use Rattle.sarif.specs.LogViews.{id_seen, rule_seen}
use Rattle.sarif.specs.declared.logs.Rule.{Rule}

prefix_len-map : {A B : Type 0} (f : A → B) (p : B → Bool) (xs : List A) → prefix_len p (map f xs) ≡ prefix_len (λ x. p (f x)) xs
prefix_len-map f p [] = refl
prefix_len-map f p (x ∷ xs) = rw (prefix_len-map f p xs) refl

-- the place of a rule among the rules as they are seen
pub rule_place-seen : (rules : List Rule) (id : Id) → position (λ rule. is_same_id (id_seen rule.id) id) rules ≡ rule_place (map rule_seen rules) id
rule_place-seen rules id = rw (prefix_len-map rule_seen (λ rule. not (is_same_id rule.id id)) rules, length-map rules rule_seen) refl

-- lists of values that have no float
items-plain : {X : Type 0} (f : X → Data) → ((x : X) → has_float (f x) ≡ false) → (xs : List X) → items_have_float (items_of (map f xs)) ≡ false
items-plain f each [] = refl
items-plain f each (x ∷ xs) = rw (each x, items-plain f each xs) refl

column-plain : (column : Option ℕ) (line : ℕ) → members_have_float (column_before column (line_member line)) ≡ false
column-plain None line = refl
column-plain (Some column) line = refl

location-plain : (uri : List ℕ) (place : Option Place) → has_float (location_json uri place) ≡ false
location-plain uri None = refl
location-plain uri (Some place) = rw (column-plain place.column place.line) refl

index-plain : (index : Option ℕ) → members_have_float (index_member index) ≡ false
index-plain None = refl
index-plain (Some index) = refl

finding-plain : (uri : List ℕ) (rules : List RuleSeen) (finding : Finding) → has_float (finding_json uri rules finding) ≡ false
finding-plain uri rules finding =
    let location = location-plain uri finding.place in
    let related = items-plain (λ place. location_json uri (Some place)) (λ place. location-plain uri (Some place)) finding.related in
    let index = index-plain (rule_place rules finding.rule) in
    rw (location, related, index) refl

-- No value of a log is a float.
pub log-plain : (log : Log) → has_float (log_json log) ≡ false
log-plain log =
    let findings = items-plain (finding_json log.uri log.rules) (finding-plain log.uri log.rules) log.findings in
    let rules = items-plain rule_json (λ rule. refl) log.rules in
    rw (findings, rules) refl
