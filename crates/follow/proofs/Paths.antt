-- A path is another in two parts if it begins with the first, and the second is behind that.
use Rattle.std.proofs.Common.{◌≡◌, ℕ, Bool, true, false, List, [], ◌∷◌, ◌++◌, length, take, drop, refl}
use Rattle.std.specs.Prelude.{◌&&◌, nat_eq}
use Rattle.std.specs.Str.{bytes_eq}

pub not-begun : (front back text : List ℕ) → bytes_eq (take (length front) text) front ≡ false → false ≡ bytes_eq text (front ++ back)
not-begun [] back text is = absurd cc
not-begun (b ∷ front) back [] is = refl
not-begun (b ∷ front) back (c ∷ text) is = go (nat_eq c b) is (not-begun front back text)
  where
    go : (here : Bool) → (here && bytes_eq (take (length front) text) front) ≡ false →
        (bytes_eq (take (length front) text) front ≡ false → false ≡ bytes_eq text (front ++ back)) → false ≡ (here && bytes_eq text (front ++ back))
    go true is rest = rest is
    go false is rest = refl

pub begun : (front back text : List ℕ) → bytes_eq (take (length front) text) front ≡ true → bytes_eq (drop (length front) text) back ≡ bytes_eq text (front ++ back)
begun [] back text is = refl
begun (b ∷ front) back [] is = absurd cc
begun (b ∷ front) back (c ∷ text) is = go (nat_eq c b) is (begun front back text)
  where
    go : (here : Bool) → (here && bytes_eq (take (length front) text) front) ≡ true →
        (bytes_eq (take (length front) text) front ≡ true → bytes_eq (drop (length front) text) back ≡ bytes_eq text (front ++ back)) →
        bytes_eq (drop (length front) text) back ≡ (here && bytes_eq text (front ++ back))
    go true is rest = rest is
    go false is rest = absurd cc
