-- REAL=MODEL, as words say it: two paths from the root, with or without a slash at their ends. (own)
use Rattle.std.specs.Prelude.{◌-◌, ◌&&◌, ℕ, List, [], ◌∷◌, drop, take, length, Option, Some, None, if◌then◌else◌}
use Rattle.std.specs.List.{flat_map}
use Rattle.std.specs.Str.{bytes_eq}
use Rattle.file_tree.specs.Places.{slash}
use Rattle.lookup.specs.Paths.{is_absolute}
use Rattle.texts.specs.Parts.{parts}
use Rattle.follow.specs.Places.{Placing}

abbrev pub equals_sign : ℕ
equals_sign = 61

abbrev pub without_slash : List ℕ → List ℕ
without_slash text = if bytes_eq (drop (length text - 1) text) (slash ∷ []) then take (length text - 1) text else text

abbrev pub placed_by : List ℕ → List ℕ → Option Placing
placed_by real model =
    if is_absolute real && is_absolute model then Some (record { real = without_slash real; model = without_slash model }) else None

abbrev pub placing_of_parts : List (List ℕ) → Option Placing
placing_of_parts (real ∷ model ∷ []) = placed_by real model
placing_of_parts _ = None

abbrev pub placing_in : List ℕ → Option Placing
placing_in word = placing_of_parts (parts equals_sign word)

abbrev pub listed : Option Placing → List Placing
listed None = []
listed (Some placing) = placing ∷ []

abbrev pub placings_in : List (List ℕ) → List Placing
placings_in words = flat_map (λ word. listed (placing_in word)) words
