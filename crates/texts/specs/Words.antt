-- The words of a line: its parts between spaces. (own)
use Rattle.std.specs.Prelude.{◌≡◌, ℕ, Bool, true, false, List, [], ◌∷◌, Option, Some, None}
use Rattle.texts.specs.Bytes.{space}
use Rattle.texts.specs.Parts.{parts}

-- the words of what is left of a line; none where the last one is read
abbrev pub words_left : Option (List ℕ) → List (List ℕ)
words_left None = []
words_left (Some rest) = parts space rest

-- whether no word is left
abbrev pub is_used_up : List (List ℕ) → Bool
is_used_up [] = true
is_used_up (word ∷ words) = false

-- The next word is the first of those that were left, and the others are left; there is none where none was left.
abbrev pub IsNext : Option (List ℕ) → List (List ℕ) → List (List ℕ) → Type 0
IsNext None before after = (before ≡ []) × (after ≡ [])
IsNext (Some word) before after = before ≡ word ∷ after
