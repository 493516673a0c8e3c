-- Which results of a log are errors: the rules that are broken, and nothing else. (own)
use Rattle.std.specs.Prelude.{Bool, true, false, List, filter, map}
use Rattle.checker.specs.Findings.{BrokenRule}
use Rattle.sarif.specs.Logs.{Finding, Id, Level, error, note, numbered, warning}

abbrev pub is_error : Level → Bool
is_error error = true
is_error warning = false
is_error note = false

-- the rules of the results that are errors, in the order of the results
abbrev pub errors_of : List Finding → List Id
errors_of findings = map (λ finding. finding.rule) (filter (λ finding. is_error finding.level) findings)

-- the rules that are broken, in the order of the findings
abbrev pub ids_of : List BrokenRule → List Id
ids_of broken = map (λ found. numbered found.rule) broken
