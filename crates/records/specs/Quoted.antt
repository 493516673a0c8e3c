-- Bytes in double quotes. A byte that isn't one of 33 to 126, and `"` and `\`, stand as `\x` and two hexadecimal digits. (own)
use Rattle.std.specs.Prelude.{◌==◌, ◌&&◌, ℕ, Bool, nat_le, not, List, [], ◌∷◌, ◌++◌, Option, Some, None, if◌then◌else◌}
use Rattle.std.specs.List.{flat_map}
use Rattle.texts.specs.Bytes.{backslash, quote}
use Rattle.texts.specs.Hex.{hex_of, hex_text}

-- the byte `x`
abbrev pub escape_letter : ℕ
escape_letter = 120

-- a byte that stands for itself
abbrev pub is_plain : ℕ → Bool
is_plain b = nat_le 33 b && nat_le b 126 && not (b == quote) && not (b == backslash)

abbrev pub byte_text : ℕ → List ℕ
byte_text b = if is_plain b then b ∷ [] else backslash ∷ escape_letter ∷ hex_text 2 b

unfoldable pub quoted : List ℕ → List ℕ
quoted bytes = quote ∷ (flat_map byte_text bytes ++ quote ∷ [])

-- How far a quoted text is read: before its first quote, within it, within an escape behind so many of its bytes, and behind its last quote.
pub data QuoteProgress : Type 0 where
  Before : QuoteProgress
  Within : QuoteProgress
  Escaped : QuoteProgress
  Lettered : QuoteProgress
  Halfway : (digit : ℕ) → QuoteProgress
  Behind : QuoteProgress

-- what a byte does there: it leads on, it completes a byte of the text, or it may not stand there
pub data QuoteEffect : Type 0 where
  Leads : (progress : QuoteProgress) → QuoteEffect
  Gives : (byte : ℕ) → QuoteEffect
  Stops : QuoteEffect

abbrev pub given_byte : Option ℕ → QuoteEffect
given_byte None = Stops
given_byte (Some byte) = Gives byte

unfoldable pub effect : QuoteProgress → ℕ → QuoteEffect
effect Before b = if b == quote then Leads Within else Stops
effect Within b =
    if b == quote then Leads Behind else if b == backslash then Leads Escaped else if is_plain b then Gives b else Stops
effect Escaped b = if b == escape_letter then Leads Lettered else Stops
effect Lettered b = Leads (Halfway b)
effect (Halfway digit) b = given_byte (hex_of 2 (digit ∷ b ∷ []))
effect Behind b = Stops

-- the bytes of a quoted text, behind those that are read
abbrev pub if_closed : List ℕ → QuoteProgress → Option (List ℕ)
if_closed bytes Behind = Some bytes
if_closed bytes _ = None

-- where a byte's effect leads, to what is read of the rest there
abbrev pub going : QuoteEffect → List ℕ → (List ℕ → QuoteProgress → Option (List ℕ)) → Option (List ℕ)
going (Leads progress) bytes rest = rest bytes progress
going (Gives byte) bytes rest = rest (bytes ++ byte ∷ []) Within
going Stops bytes rest = None

abbrev pub unquoted_from : List ℕ → List ℕ → QuoteProgress → Option (List ℕ)
unquoted_from [] bytes progress = if_closed bytes progress
unquoted_from (b ∷ word) bytes progress = going (effect progress b) bytes (unquoted_from word)

unfoldable pub unquoted : List ℕ → Option (List ℕ)
unquoted word = unquoted_from word [] Before
