-- What the code's lines stand for.
use Rattle.std.specs.Prelude.{ℕ, List, [], Option, Some, None}
use Rattle.texts.specs.Bytes.{line_feed}
use Rattle.texts.specs.declared.lines.Line.{Line as LineCode}
use Rattle.texts.specs.Parts.{parts}
use Rattle.texts.specs.Lines.{Line, lines_from}

abbrev pub line_of : LineCode → Line
line_of line = record { text = line.text.now; offset = line.offset; is_ended = line.is_ended }

-- the lines of what is left of a text, which begins at this offset; none where the last one is read
abbrev pub lines_left : ℕ → Option (List ℕ) → List Line
lines_left offset None = []
lines_left offset (Some rest) = lines_from offset (parts line_feed rest)
