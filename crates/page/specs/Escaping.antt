-- How a text that isn't the page's own is shown: no letter of it is markup, and none is invisible or turns the order of others. Letters are told by
-- their code points. (own)
use Rattle.std.specs.Prelude.{◌==◌, ◌/◌, ◌%◌, ◌&&◌, ◌||◌, ◌++◌, ℕ, Bool, true, not, nat_le, nat_lt, codes, List, [], ◌∷◌, if◌then◌else◌}
use Rattle.std.specs.List.{flat_map}
use Rattle.std.specs.Str.{chars, encode_utf8_all, is_utf8}
use Rattle.texts.specs.Hex.{hex_text}

-- a control; a tab is none here
abbrev pub is_control : ℕ → Bool
is_control c = (nat_lt c 32 && not (c == 9)) || (nat_le 127 c && nat_le c 159)

-- a mark that turns the order of letters: ALM, LRM, RLM, embeddings and overrides, isolates
abbrev pub turns_order : ℕ → Bool
turns_order c =
    (c == 0x061C) || (c == 0x200E) || (c == 0x200F) || (nat_le 0x202A c && nat_le c 0x202E) || (nat_le 0x2066 c && nat_le c 0x2069)

-- a byte order mark, or the last two of a plane, which are no characters
abbrev pub is_no_character : ℕ → Bool
is_no_character c = (c == 0xFEFF) || nat_le 0xFFFE (c % 0x1_0000)

unfoldable pub is_hidden : ℕ → Bool
is_hidden c = is_control c || turns_order c || is_no_character c

-- the number of a letter, as `\u{202e}`, in four digits or six
unfoldable pub code_letters : ℕ → List ℕ
code_letters c =
    codes "\\u{" ++ ((if nat_lt c 0x1_0000 then [] else hex_text 2 (c / 0x1_0000)) ++ (hex_text 4 (c % 0x1_0000) ++ codes "}"))

-- a letter that can be seen, or its number
unfoldable pub seen_letter : ℕ → List ℕ
seen_letter c = if is_hidden c then code_letters c else c ∷ []

-- what is shown of a letter
unfoldable pub shown_letter : ℕ → List ℕ
shown_letter c =
    if c == 38 then codes "&amp;" else if c == 60 then codes "&lt;" else if c == 62 then codes "&gt;" else if c == 34 then codes "&quot;" else
    seen_letter c

-- what is shown of a byte of a text that isn't UTF-8, as `\x{ff}` of one past ASCII
unfoldable pub shown_byte : ℕ → List ℕ
shown_byte b = if nat_lt b 128 then shown_letter b else codes "\\x{" ++ (hex_text 2 b ++ codes "}")

-- the letters that are shown of a text
abbrev pub shown_letters : List ℕ → List ℕ
shown_letters text = if is_utf8 text then flat_map shown_letter (chars text) else flat_map shown_byte text

-- their bytes
abbrev pub escaped : List ℕ → List ℕ
escaped text = encode_utf8_all (shown_letters text)

-- it neither begins markup nor ends an attribute
abbrev pub is_no_markup : ℕ → Bool
is_no_markup c = not (c == 60) && (not (c == 62) && not (c == 34))

-- a letter that may stand anywhere: it is no markup and can be seen
abbrev pub is_safe : ℕ → Bool
is_safe c = is_no_markup c && not (is_hidden c)

-- whether one text begins with another
abbrev pub has_front : List ℕ → List ℕ → Bool
has_front [] text = true
has_front (c ∷ front) [] = Bool.false
has_front (c ∷ front) (d ∷ text) = (c == d) && has_front front text

-- each ampersand begins one of the four references
abbrev pub has_references_only : List ℕ → Bool
has_references_only [] = true
has_references_only (c ∷ text) =
    (not (c == 38) || (has_front (codes "amp;") text || (has_front (codes "lt;") text || (has_front (codes "gt;") text || has_front (codes "quot;") text))))
    && has_references_only text
