-- A text's lines, and a line's words. (own)
use Rattle.std.specs.Prelude.{◌==◌, ℕ, Bool, false, ◌&&◌, ◌||◌, List, [], ◌∷◌, ◌++◌, if◌then◌else◌}
use Rattle.std.proofs.Math.Bool.{not}
use Rattle.texts.specs.Bytes.{line_feed, is_lower, is_upper, is_digit, quote, semicolon, space, tab, underscore, colon, comma}
use Rattle.texts.specs.Parts.{parts}

-- Lines are parted by line feeds and by nothing else. What stands behind the last one is a line too.
abbrev pub text_lines : List ℕ → List (List ℕ)
text_lines text = parts line_feed text

-- A quote begins a quoted part, which the next one or the end of the line ends: whether the bytes
-- behind this one are quoted, if it is itself.
abbrev pub quoted_behind : Bool → ℕ → Bool
quoted_behind quoted byte = if byte == quote then not quoted else quoted

-- A `;` outside quotes begins a comment: the line before it.
abbrev pub uncommented_from : Bool → List ℕ → List ℕ
uncommented_from quoted [] = []
uncommented_from quoted (b ∷ line) =
    if not quoted && (b == semicolon) then [] else b ∷ uncommented_from (quoted_behind quoted b) line

abbrev pub uncommented : List ℕ → List ℕ
uncommented line = uncommented_from false line

-- spaces and tabs
abbrev pub is_blank : ℕ → Bool
is_blank byte = (byte == space) || (byte == tab)

-- Outside quotes words have letters, digits, and the bytes `_`, `:`, `,` and `"`.
abbrev pub is_word_byte : ℕ → Bool
is_word_byte byte = is_lower byte || is_upper byte || is_digit byte || (byte == underscore) || (byte == colon) || (byte == comma) || (byte == quote)

-- Some byte outside quotes is neither a blank nor one that words have.
abbrev pub has_stray_from : Bool → List ℕ → Bool
has_stray_from quoted [] = false
has_stray_from quoted (b ∷ line) = not (quoted || is_blank b || is_word_byte b) || has_stray_from (quoted_behind quoted b) line

abbrev pub has_stray : List ℕ → Bool
has_stray line = has_stray_from false line

-- Words are parted by blanks outside quotes.
abbrev pub word_ended : List ℕ → List (List ℕ)
word_ended [] = []
word_ended (b ∷ begun) = (b ∷ begun) ∷ []

abbrev pub words_from : Bool → List ℕ → List ℕ → List (List ℕ)
words_from quoted [] begun = word_ended begun
words_from quoted (b ∷ line) begun =
    if not quoted && is_blank b then word_ended begun ++ words_from false line []
    else words_from (quoted_behind quoted b) line (begun ++ b ∷ [])

abbrev pub quoted_words : List ℕ → List (List ℕ)
quoted_words line = words_from false line []
