-- A word with two signs between its parts is no REAL=MODEL.
use Rattle.std.proofs.Common.{◌≡◌, ◌==◌, ℕ, Bool, true, false, cond, List, [], ◌∷◌, ◌++◌, refl}
use Rattle.std.specs.Prelude.{None}
use Rattle.texts.specs.Parts.{parts, parts_from}
use Rattle.answers.specs.PlacingWords.{equals_sign, placing_of_parts}

some_parts : (text begun : List ℕ) → parts_from equals_sign text begun ≡ [] → ⊥
some_parts [] begun is = cc
some_parts (b ∷ text) begun is = go (b == equals_sign) (some_parts text (begun ++ b ∷ [])) is
  where
    go : (ends : Bool) → (parts_from equals_sign text (begun ++ b ∷ []) ≡ [] → ⊥)
        → cond ends (begun ∷ parts_from equals_sign text []) (parts_from equals_sign text (begun ++ b ∷ [])) ≡ [] → ⊥
    go true more is = cc
    go false more is = more is

no_placing : (real first : List ℕ) (more : List (List ℕ)) → (more ≡ [] → ⊥) → placing_of_parts (real ∷ first ∷ more) ≡ None
no_placing real first [] some = absurd (some refl)
no_placing real first (part ∷ more) some = refl

pub too_many : (real first rest : List ℕ) → placing_of_parts (real ∷ first ∷ parts equals_sign rest) ≡ None
too_many real first rest = no_placing real first (parts equals_sign rest) (some_parts rest [])
