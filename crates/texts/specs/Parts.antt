-- The parts of a text between the bytes that separate them. (own)
use Rattle.std.specs.Prelude.{◌≡◌, ◌==◌, ℕ, List, [], ◌∷◌, ◌++◌, Option, Some, None, if◌then◌else◌}

-- the parts, behind what has begun already
abbrev pub parts_from : ℕ → List ℕ → List ℕ → List (List ℕ)
parts_from separator [] begun = begun ∷ []
parts_from separator (b ∷ text) begun =
    if b == separator then begun ∷ parts_from separator text [] else parts_from separator text (begun ++ b ∷ [])

abbrev pub parts : ℕ → List ℕ → List (List ℕ)
parts separator text = parts_from separator text []

-- The parts are the first one, and those of the rest where there is any.
abbrev pub Begins : List (List ℕ) → ℕ → List ℕ → Option (List ℕ) → Type 0
Begins all separator first None = all ≡ first ∷ []
Begins all separator first (Some rest) = all ≡ first ∷ parts separator rest

-- the parts with the byte that separates them between each two
abbrev pub joined : ℕ → List (List ℕ) → List ℕ
joined separator [] = []
joined separator (part ∷ []) = part
joined separator (part ∷ next ∷ others) = part ++ separator ∷ joined separator (next ∷ others)
