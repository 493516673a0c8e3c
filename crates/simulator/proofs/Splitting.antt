-- The events that are left, as the next one and the others.
use Rattle.std.proofs.Common.{◌≡◌, ℕ, ◌+◌, zero, suc, ◌<◌, ◌≤◌, List, [], ◌∷◌, refl, arith, length, map, drop, ap, sym, ◌∙◌, drop-cons, add-one}
use Rattle.std.specs.List.{slice_index_or}

pub map-drop : {A B : Type 0} (f : A → B) (xs : List A) (i : ℕ) (d : A) → i < length xs → map f (drop i xs) ≡ f (slice_index_or xs i d) ∷ map f (drop (i + 1) xs)
map-drop f xs i d within = ap (map f) (drop-cons xs i d within ∙ ap (λ n. slice_index_or xs i d ∷ drop n xs) (sym (add-one i)))

pub drop-end : {A : Type 0} (xs : List A) (i : ℕ) → length xs ≤ i → drop i xs ≡ []
drop-end [] zero past = refl
drop-end [] (suc i) past = refl
drop-end (x ∷ xs) zero past = absurd (omega arith)
drop-end (x ∷ xs) (suc i) past = drop-end xs i (omega arith)
