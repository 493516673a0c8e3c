-- Rows of what a log's JSON is, and what a name's URI is.
use Rattle.std.proofs.Common.{◌≡◌, List, [], ◌∷◌, codes, false, refl}
use Rattle.std.specs.Prelude.{◌++◌, None, Some}
use Rattle.std.specs.Fmt.{digits}
use Rattle.std.specs.Str.{chars, is_utf8}
use Rattle.std.specs.Str.Lossy.{utf8_lossy, utf8_valid_len}
use Rattle.serde_json.proofs.OnLiterals.{serde_json_on_literals}
use Rattle.percent_encoding.proofs.OnLiterals.{percent_encoding_on_literals}
use Rattle.serde_json.specs.Written.{compact_text}
use Rattle.sarif.specs.Documents.{finding_json, location_json, log_json, region_json, rule_place}
use Rattle.sarif.specs.Logs.{Finding, Rule, error, id_text, named, numbered}
use Rattle.sarif.specs.Uris.{stands_in_path, uri_of}

-- a name as it is, and one with a space, a percent sign, a letter that isn't ASCII and a colon
plain_name : uri_of (codes "tasks/copy-2.toml") ≡ codes "tasks/copy-2.toml"
unfolding percent_encoding_on_literals
plain_name = refl

escaped_name : uri_of (codes "a b/50%:" ++ 195 ∷ 188 ∷ []) ≡ codes "a%20b/50%25%3A%C3%BC"
unfolding percent_encoding_on_literals
escaped_name = refl

-- two slashes at the head don't begin an authority
slashes : uri_of (codes "//x") ≡ codes "/.//x"
unfolding percent_encoding_on_literals
slashes = refl

colon_not : stands_in_path 58 ≡ false
colon_not = refl

-- a place with a column, and one without
region_text : compact_text (region_json (record { line = 3; column = Some 7 })) ≡ codes "{\"startColumn\":7,\"startLine\":3}"
unfolding serde_json_on_literals digits
region_text = refl

line_text : compact_text (region_json (record { line = 3; column = None })) ≡ codes "{\"startLine\":3}"
unfolding serde_json_on_literals digits
line_text = refl

-- a file alone
file_text : compact_text (location_json (codes "t") None) ≡ codes "{\"physicalLocation\":{\"artifactLocation\":{\"uri\":\"t\"}}}"
unfolding serde_json_on_literals
file_text = refl

two_rules : List Rule
two_rules =
    record { id = numbered 1; level = error; title = codes "s"; says = codes "w"; help = codes "h" }
    ∷ record { id = named (codes "never-enters"); level = error; title = codes "t"; says = codes "x"; help = codes "i" }
    ∷ []

-- the place of a rule; none of what is no rule
second_rule : rule_place two_rules (named (codes "never-enters")) ≡ Some 1
unfolding two_rules
second_rule = refl

no_rule : rule_place two_rules (numbered 2) ≡ None
unfolding two_rules
no_rule = refl

number_text : id_text (numbered 12) ≡ codes "K12"
unfolding digits
number_text = refl

broken : Finding
broken = record { rule = named (codes "never-enters"); level = error; message = codes "m"; place = Some (record { line = 3; column = None }); related = [] }

finding_text : compact_text (finding_json (codes "t") two_rules broken) ≡
    codes "{\"level\":\"error\",\"locations\":[{\"physicalLocation\":{\"artifactLocation\":{\"uri\":\"t\"},\"region\":{\"startLine\":3}}}],"
    ++ codes "\"message\":{\"text\":\"m\"},\"relatedLocations\":[],\"ruleId\":\"never-enters\",\"ruleIndex\":1}"
unfolding serde_json_on_literals digits utf8_lossy utf8_valid_len is_utf8 chars two_rules broken
finding_text = refl

-- a log without findings
empty_text : compact_text (log_json (record { uri = codes "t"; rules = []; findings = [] })) ≡
    codes "{\"$schema\":\"https://json.schemastore.org/sarif-2.1.0.json\",\"runs\":[{\"results\":[],\"tool\":{\"driver\":{\"name\":\"capwhy\",\"rules\":[]}}}],\"version\":\"2.1.0\"}"
unfolding serde_json_on_literals
empty_text = refl
