-- The lines of a text: its parts between line feeds, each with the offset of its first byte. What stands behind the
-- last line feed is a line too, often an empty one, and the only one that no line feed ends. (own)
use Rattle.std.specs.Prelude.{◌+◌, ℕ, Bool, true, false, List, [], ◌∷◌, length}
use Rattle.texts.specs.Bytes.{line_feed}
use Rattle.texts.specs.Parts.{parts}

pub record Line : Type 0 where
  pub text : List ℕ
  pub offset : ℕ
  pub is_ended : Bool

abbrev pub lines_from : ℕ → List (List ℕ) → List Line
lines_from offset [] = []
lines_from offset (last ∷ []) = (record { text = last; offset = offset; is_ended = false }) ∷ []
lines_from offset (line ∷ next ∷ texts) =
    (record { text = line; offset = offset; is_ended = true }) ∷ lines_from (offset + length line + 1) (next ∷ texts)

abbrev pub lines_of : List ℕ → List Line
lines_of text = lines_from 0 (parts line_feed text)
