-- The parts of a text, from the first one.
use Rattle.std.proofs.Common.{◌≡◌, ℕ, true, List, ◌∷◌, subst}
use Rattle.std.specs.Prelude.{Option, Some, None, is_some, option_map}
use Rattle.texts.specs.Parts.{Begins, parts}

-- the parts of a text that has more than one
pub begins_some : {T : Type 0} (f : T → List ℕ) (all : List (List ℕ)) (separator : ℕ) (first : List ℕ) (o : Option T) (rest : T) →
    Begins all separator first (option_map f o) → o ≡ Some rest → all ≡ first ∷ parts separator (f rest)
begins_some f all separator first o rest begins is = subst (λ o. Begins all separator first (option_map f o)) is begins

pub begins_more : {T : Type 0} (f : T → List ℕ) (all : List (List ℕ)) (separator : ℕ) (first : List ℕ) (o : Option T) →
    Begins all separator first (option_map f o) → is_some o ≡ true → (rest : List ℕ) × (all ≡ first ∷ parts separator rest)
begins_more f all separator first None begins is = absurd cc
begins_more f all separator first (Some rest) begins is = (f rest, begins)
