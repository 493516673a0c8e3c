-- The JSON of a log, in the form SARIF 2.1.0 (OASIS, 2020). An object has its members in the order of their names.
use Rattle.std.specs.Prelude.{ℕ, List, [], ◌∷◌, map, codes, Option, None, Some}
use Rattle.std.specs.List.{position}
use Rattle.std.specs.Str.Lossy.{utf8_lossy}
use Rattle.serde_json.specs.Data.{Data, string, array, object, number, unsigned, Members, member, no_members}
use Rattle.serde_json.specs.View.{items_of}
use Rattle.sarif.specs.Logs.{Finding, Id, Level, Log, Place, Rule, error, id_text, is_same_id, note, warning}

abbrev pub level_name : Level → List ℕ
level_name error = codes "error"
level_name warning = codes "warning"
level_name note = codes "note"

-- a message (3.11)
abbrev pub message_json : List ℕ → Data
message_json text = object (member (codes "text") (string text) no_members)

-- a line, and a column where there is one (3.30)
abbrev pub line_member : ℕ → Members
line_member line = member (codes "startLine") (number (unsigned line)) no_members

abbrev pub column_before : Option ℕ → Members → Members
column_before None members = members
column_before (Some column) members = member (codes "startColumn") (number (unsigned column)) members

abbrev pub region_json : Place → Data
region_json place = object (column_before place.column (line_member place.line))

-- where in which file, and in which file where no line is known (3.28, 3.29)
abbrev pub region_member : Option Place → Members
region_member None = no_members
region_member (Some place) = member (codes "region") (region_json place) no_members

abbrev pub file_json : List ℕ → Data
file_json uri = object (member (codes "uri") (string uri) no_members)

abbrev pub physical_json : List ℕ → Option Place → Data
physical_json uri place = object (member (codes "artifactLocation") (file_json uri) (region_member place))

abbrev pub location_json : List ℕ → Option Place → Data
location_json uri place = object (member (codes "physicalLocation") (physical_json uri place) no_members)

-- The place of a rule with an id among the rules, counted from 0: of the first, where there is one (3.27.6).
abbrev pub rule_place : List Rule → Id → Option ℕ
rule_place rules id = position (λ rule. is_same_id rule.id id) rules

abbrev pub index_member : Option ℕ → Members
index_member None = no_members
index_member (Some index) = member (codes "ruleIndex") (number (unsigned index)) no_members

abbrev pub locations_json : List ℕ → Option Place → Data
locations_json uri place = array (items_of (location_json uri place ∷ []))

-- A finding (3.27). Of a message and the like that is no UTF-8, what isn't is replaced by U+FFFD.
abbrev pub related_json : List ℕ → List Place → Data
related_json uri places = array (items_of (map (λ place. location_json uri (Some place)) places))

abbrev pub finding_json : List ℕ → List Rule → Finding → Data
finding_json uri rules finding =
    object (
    member (codes "level") (string (level_name finding.level)) (
    member (codes "locations") (locations_json uri finding.place) (
    member (codes "message") (message_json (utf8_lossy finding.message)) (
    member (codes "relatedLocations") (related_json uri finding.related) (
    member (codes "ruleId") (string (id_text finding.rule)) (
    index_member (rule_place rules finding.rule)))))))

abbrev pub results_json : List ℕ → List Rule → List Finding → Data
results_json uri rules findings = array (items_of (map (finding_json uri rules) findings))

-- A rule (3.49).
abbrev pub rule_json : Rule → Data
rule_json rule =
    object (
    member (codes "defaultConfiguration") (object (member (codes "level") (string (level_name rule.level)) no_members)) (
    member (codes "fullDescription") (message_json rule.says) (
    member (codes "help") (message_json rule.help) (
    member (codes "id") (string (id_text rule.id)) (
    member (codes "shortDescription") (message_json rule.title) no_members)))))

-- The tool, with its rules (3.18, 3.19).
abbrev pub tool_json : List Rule → Data
tool_json rules =
    object (member (codes "driver") (object (
    member (codes "name") (string (codes "capwhy")) (
    member (codes "rules") (array (items_of (map rule_json rules))) no_members))) no_members)

-- The run (3.14): its columns are counted in bytes, which are characters where the text is ASCII.
abbrev pub run_json : Log → Data
run_json log =
    object (
    member (codes "results") (results_json log.uri log.rules log.findings) (
    member (codes "tool") (tool_json log.rules) no_members))

-- The log (3.13).
abbrev pub log_json : Log → Data
log_json log =
    object (
    member (codes "$schema") (string (codes "https://json.schemastore.org/sarif-2.1.0.json")) (
    member (codes "runs") (array (items_of (run_json log ∷ []))) (
    member (codes "version") (string (codes "2.1.0")) no_members)))
