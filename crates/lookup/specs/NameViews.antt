-- Names that lie in one text.
use Rattle.std.specs.Prelude.{ℕ, ◌-◌, ◌≤◌, List, [], ◌∷◌, drop, take, length, map, reverse}
use Rattle.rights.specs.Values.{Name}
use Rattle.lookup.specs.declared.names.Span.{Span}

-- the name that lies at a span, and those at some, of which the last one comes first
abbrev pub spanned : List ℕ → Span → Name
spanned text span = take (span.end - span.start) (drop span.start text)

abbrev pub all_spanned : List ℕ → List Span → List Name
all_spanned text spans = reverse (map (spanned text) spans)

-- they lie in the text
abbrev pub IsSpanOf : List ℕ → Span → Type 0
IsSpanOf text span = (span.start ≤ span.end) × (span.end ≤ length text)

abbrev pub AreSpansOf : List ℕ → List Span → Type 0
AreSpansOf text [] = Unit {0}
AreSpansOf text (span ∷ spans) = IsSpanOf text span × AreSpansOf text spans
