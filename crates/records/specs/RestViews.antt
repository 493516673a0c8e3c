-- The words that are left, and what is taken of them.
use Rattle.std.specs.Prelude.{◌≡◌, ℕ, Bool, true, false, List, [], ◌∷◌, Option, Some, None}
use Rattle.std.specs.Str.{bytes_eq}

abbrev pub left : Option (List ℕ) → List (List ℕ) → List (List ℕ)
left None words = []
left (Some word) words = word ∷ words

abbrev pub begins_with : List ℕ → List (List ℕ) → Bool
begins_with keyword [] = false
begins_with keyword (word ∷ words) = bytes_eq word keyword

-- The keyword was the next word and is taken, or the next word is another one, or there is none.
abbrev pub TakesIf : Bool → List ℕ → List (List ℕ) → List (List ℕ) → Type 0
TakesIf true keyword before after = before ≡ keyword ∷ after
TakesIf false keyword before after = (begins_with keyword before ≡ false) × (after ≡ before)
