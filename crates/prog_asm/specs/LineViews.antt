-- What the code's lines, labels and steps stand for.
use Rattle.std.specs.Prelude.{ℕ, List, map, Bool, false, Option, option_map, is_some, None, Some}
use Rattle.std.specs.Borrow.{Bor}
use Rattle.std.specs.Str.{bytes_eq}
use Rattle.indexmap.specs.IndexMap.{IndexMap, get_by}
use Rattle.prog_asm.specs.declared.lines.Span.{Span as SpanCode}
use Rattle.prog_asm.specs.declared.lines.Word.{Word as WordCode}
use Rattle.prog_asm.specs.declared.statements.Line.{Line as LineCode}
use Rattle.instruction_set.specs.Assembly.{Line}
use Rattle.prog_asm.specs.FormViews.{written_from}
use Rattle.prog_asm.specs.WordPlaces.{Span, Word}

abbrev pub line_from : LineCode → Line
line_from line = record { label = option_map (λ label. label.now) line.label; instruction = option_map written_from line.instruction }

-- the point that a name has
abbrev pub point_in : {S : Type 0} → IndexMap (Bor (List ℕ)) ℕ S → List ℕ → Option ℕ
point_in labels name = get_by (λ label. bytes_eq name label.now) labels

-- whether a line's label has a point already
abbrev pub has_point : {S : Type 0} → IndexMap (Bor (List ℕ)) ℕ S → Option (List ℕ) → Bool
has_point labels None = false
has_point labels (Some name) = is_some (point_in labels name)

abbrev pub span_seen : SpanCode → Span
span_seen span = record { start = span.start; end = span.end }

abbrev pub word_of : WordCode → Word
word_of word = record { text = word.text.now; span = span_seen word.span }

-- what words say, wherever they stand
abbrev pub texts_of : List WordCode → List (List ℕ)
texts_of words = map (λ word. word.text.now) words
