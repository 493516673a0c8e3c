-- The texts of numbered things, from one of them on.
use Rattle.std.proofs.Common.{◌≡◌, ℕ, ◌+◌, ◌<◌, ◌≤◌, zero, suc, List, [], ◌∷◌, ◌++◌, length, map, drop, refl, ap, sym, ◌∙◌, arith, add-one, drop-cons}
use Rattle.std.specs.List.{slice_index_or}
use Rattle.certificate_text.specs.Pieces.{in_order}

pub in-order-here : {A B : Type 0} (view : A → B) (text : ℕ → B → List ℕ) (xs : List A) (i : ℕ) (d : A) → i < length xs →
    in_order text i (map view (drop i xs)) ≡ text i (view (slice_index_or xs i d)) ++ in_order text (i + 1) (map view (drop (i + 1) xs))
unfolding in_order
in-order-here view text xs i d within =
    ap (λ rest. in_order text i (map view rest)) (drop-cons xs i d within ∙ ap (λ n. slice_index_or xs i d ∷ drop n xs) (sym (add-one i)))

all-dropped : {A : Type 0} (xs : List A) (i : ℕ) → length xs ≤ i → drop i xs ≡ []
all-dropped [] zero past = refl
all-dropped [] (suc i) past = refl
all-dropped (x ∷ xs) zero past = absurd (omega arith)
all-dropped (x ∷ xs) (suc i) past = all-dropped xs i (omega arith)

pub in-order-end : {A B : Type 0} (view : A → B) (text : ℕ → B → List ℕ) (xs : List A) (i : ℕ) → length xs ≤ i → in_order text i (map view (drop i xs)) ≡ []
unfolding in_order
in-order-end view text xs i past = ap (λ rest. in_order text i (map view rest)) (all-dropped xs i past)
