-- Names as bytes.
use Rattle.std.proofs.Common.{◌≡◌, ℕ, true, List, [], ◌∷◌, refl}
use Rattle.std.specs.Str.{bytes_eq}
use Rattle.std.proofs.lemmas.Bool.{eqb-true}
use Rattle.rights.proofs.Tests.{both_left, both_right}

-- names of which the test says that they are the same
pub same_bytes : (xs ys : List ℕ) → bytes_eq xs ys ≡ true → xs ≡ ys
same_bytes [] [] is = refl
same_bytes [] (y ∷ ys) is = absurd cc
same_bytes (x ∷ xs) [] is = absurd cc
same_bytes (x ∷ xs) (y ∷ ys) is =
    let first : x ≡ y = eqb-true x y (both_left _ (bytes_eq xs ys) is) in
    let rest : xs ≡ ys = same_bytes xs ys (both_right _ (bytes_eq xs ys) is) in
    cc
