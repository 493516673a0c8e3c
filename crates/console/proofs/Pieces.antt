-- Pieces that are written one after another.
use Rattle.std.proofs.Common.{◌≡◌, ◌<◌, ℕ, ◌+◌, zero, suc, List, [], ◌∷◌, ◌++◌, length, map, refl, ap, arith}
use Rattle.std.specs.List.{slice_index_or}
use Rattle.std.specs.Prelude.{flat_map}
use Rattle.certificate_text.specs.Pieces.{in_order}

-- a piece, whatever its place is
abbrev pub piece_at : ℕ → List ℕ → List ℕ
piece_at n piece = piece

pub pieces-in_order : {A : Type 0} (bytes : A → List ℕ) (n : ℕ) (xs : List A) → in_order piece_at n (map bytes xs) ≡ flat_map bytes xs
unfolding in_order
pieces-in_order bytes n [] = refl
pieces-in_order bytes n (x ∷ xs) = ap (λ rest. bytes x ++ rest) (pieces-in_order bytes (n + 1) xs)

-- what is at an index doesn't depend on what would be there else
pub same-at : {A : Type 0} (xs : List A) (i : ℕ) (d e : A) → i < length xs → slice_index_or xs i d ≡ slice_index_or xs i e
same-at [] i d e within = absurd (omega arith)
same-at (x ∷ xs) zero d e within = refl
same-at (x ∷ xs) (suc i) d e within = same-at xs i d e (omega arith)
