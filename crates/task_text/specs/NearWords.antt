-- Which known word is meant by another. (own)
use Rattle.std.specs.Prelude.{ℕ, ◌==◌, ◌&&◌, ◌||◌, Bool, true, false, List, [], ◌∷◌, length, max, nat_eq, nat_le, nat_lt, codes, Option, None, Some, if◌then◌else◌}
use Rattle.std.specs.List.{starts_with}
use Rattle.std.specs.Str.{bytes_eq, str_eq_ignore_ascii_case}
use Rattle.task_text.specs.Places.{part}

-- two words differ in the order of their first two bytes alone
abbrev pub is_swapped : List ℕ → List ℕ → Bool
is_swapped (a ∷ b ∷ word) (c ∷ d ∷ known) = a == d && b == c && bytes_eq word known
is_swapped word known = false

-- At most one edit leads from a word to another: a byte put in, left out or changed, or two neighbours swapped. Where their first bytes
-- are the same, it leads from the rest to the rest.
abbrev pub is_within_one_edit : List ℕ → List ℕ → Bool
is_within_one_edit [] known = nat_le (length known) 1
is_within_one_edit (a ∷ word) [] = nat_le (length (a ∷ word)) 1
is_within_one_edit (a ∷ word) (b ∷ known) =
    if a == b then is_within_one_edit word known
    else bytes_eq word known || bytes_eq word (b ∷ known) || bytes_eq (a ∷ word) known || is_swapped (a ∷ word) (b ∷ known)

-- a known word with `CAP_` before it, but for its case
abbrev pub is_prefixed : List ℕ → List ℕ → Bool
is_prefixed known word = if starts_with nat_eq word (codes "CAP_") then str_eq_ignore_ascii_case (part word 4 (length word)) known else false

-- A known word is meant by one that is the same but for its case, or with `CAP_` before it, or from which one edit leads to it, where
-- one of the two has three bytes.
abbrev pub is_meant : List ℕ → List ℕ → Bool
is_meant known word =
    if str_eq_ignore_ascii_case word known then true
    else if is_prefixed known word then true
    else if nat_lt (max (length word) (length known)) 3 then false
    else is_within_one_edit word known

-- the first known word that is meant
abbrev pub meant_of : List (List ℕ) → List ℕ → Option (List ℕ)
meant_of [] word = None
meant_of (one ∷ known) word = if is_meant one word then Some one else meant_of known word

abbrev pub is_one_of : List (List ℕ) → List ℕ → Bool
is_one_of [] word = false
is_one_of (one ∷ known) word = if bytes_eq word one then true else is_one_of known word
