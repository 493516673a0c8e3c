-- Sets as words: the names of their members in the order of the bits, with commas between them, or `none`. (own)
use Rattle.std.specs.Prelude.{◌==◌, ◌+◌, ◌++◌, ◌/◌, ◌%◌, ℕ, Bool, false, ◌||◌, List, [], ◌∷◌, codes, map, take, Option, Some, None, if◌then◌else◌}
use Rattle.std.specs.Str.{bytes_eq}
use Rattle.rights.specs.Opens.{OpenRequest, is_valid, open_request}
use Rattle.rights.specs.Sets.{command_names, right_names}
use Rattle.texts.specs.Bytes.{comma}
use Rattle.texts.specs.Parts.{parts}

-- a member's name, and its bit's number
pub record Row : Type 0 where
  pub name : List ℕ
  pub bit : ℕ

abbrev pub row : List ℕ → ℕ → Row
row name bit = record { name = name; bit = bit }

abbrev pub named_row : (List ℕ × ℕ) → Row
named_row named = row named.0 named.1

-- the rights, without their other names; those of the fourteen; and the commands
abbrev pub right_rows : List Row
right_rows = map named_row (take 46 right_names)

abbrev pub plain_rows : List Row
plain_rows = map named_row (take 14 right_names)

abbrev pub command_rows : List Row
command_rows = map named_row command_names

abbrev pub flag_rows : List Row
flag_rows =
    row (codes "read") 1 ∷ row (codes "write") 2 ∷ row (codes "append") 4 ∷ row (codes "create") 8 ∷ row (codes "trunc") 16 ∷ []

-- the names of the members of a set, lowest bit first
abbrev pub member_names : List Row → ℕ → List (List ℕ)
member_names [] set = []
member_names (r ∷ rows) set = if set % 2 == 1 then r.name ∷ member_names rows (set / 2) else member_names rows (set / 2)

-- names, the first of them behind a separator, the others behind commas
abbrev pub listed : List ℕ → List (List ℕ) → List ℕ
listed separator [] = []
listed separator (name ∷ names) = separator ++ (name ++ listed (comma ∷ []) names)

unfoldable pub set_word : List Row → ℕ → List ℕ
set_word rows set = if set == 0 then codes "none" else listed [] (member_names rows set)

-- the sum of the bits of the rows whose names are among some words
abbrev pub has_word : List ℕ → List (List ℕ) → Bool
has_word name [] = false
has_word name (word ∷ words) = bytes_eq name word || has_word name words

abbrev pub bits_named : List Row → List (List ℕ) → ℕ
bits_named [] words = 0
bits_named (r ∷ rows) words = (if has_word r.name words then r.bit else 0) + bits_named rows words

unfoldable pub set_of_list : List Row → List ℕ → ℕ
set_of_list rows word = bits_named rows (parts comma word)

-- how a file is opened, as a set of flags
abbrev pub bit_if : Bool → ℕ → ℕ
bit_if is bit = if is then bit else 0

unfoldable pub flag_set : OpenRequest → ℕ
flag_set request = bit_if request.read 1 + bit_if request.write 2 + bit_if request.append 4 + bit_if request.create 8 + bit_if request.trunc 16

unfoldable pub request_of_set : ℕ → OpenRequest
request_of_set set = open_request (set % 2 == 1) (set / 2 % 2 == 1) (set / 4 % 2 == 1) (set / 8 % 2 == 1) (set / 16 % 2 == 1)

abbrev pub if_valid : OpenRequest → Option OpenRequest
if_valid request = if is_valid request then Some request else None

unfoldable pub request_of_word : List ℕ → Option OpenRequest
request_of_word word = if_valid (request_of_set (set_of_list flag_rows word))
