-- Small laws of tests.
use Rattle.std.proofs.Common.{◌≡◌, ℕ, Bool, true, List, [], ◌∷◌, refl, eq-eqb}
use Rattle.std.specs.Prelude.{◌&&◌}
use Rattle.std.specs.Str.{bytes_eq}
use Rattle.std.proofs.lemmas.Bool.{and_from, and_parts}

-- a text is the same as itself
pub same-text : (text : List ℕ) → bytes_eq text text ≡ true
same-text [] = refl
same-text (b ∷ text) = and_from _ _ (eq-eqb b b refl) (same-text text)

-- the three parts of a test
pub three-parts : (a b c : Bool) → (a && b && c) ≡ true → (a ≡ true) × (b ≡ true) × (c ≡ true)
three-parts a b c is = let each = and_parts (a && b) c is in let front = and_parts a b each.0 in (front.0, front.1, each.1)
