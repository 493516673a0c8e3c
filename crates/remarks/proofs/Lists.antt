-- Lists of operations, one behind the other; what is seen of a list's members that pass a test, and of a list that grows by one.
use Rattle.std.proofs.Common.{◌≡◌, ◌+◌, ◌++◌, ◌∙◌, ℕ, List, [], ◌∷◌, Bool, true, false, map, filter, refl, sym, ap, arith}
use Rattle.std.specs.List.{list_any, range_with_len}
use Rattle.std.proofs.lemmas.List.{map-append}
use Rattle.std.proofs.lemmas.List.FromFn.{map-range_with_len_more}
use Rattle.std.specs.Prelude.{◌||◌, cond}
use Rattle.std.proofs.lemmas.List.Folds.{list_any-append}
use Rattle.rights.specs.OperationLists.{lists, same_operation}
use Rattle.rights.specs.Operations.{Operation}

pub lists_both : (operation : Operation) (first second : List Operation) → lists (first ++ second) operation ≡ (lists first operation || lists second operation)
lists_both operation first second = list_any-append (same_operation operation) first second

pub filtered_map : {X Y : Type 0} (p : Y → Bool) (h : X → Y) (xs : List X) → filter p (map h xs) ≡ map h (filter (λ x. p (h x)) xs)
filtered_map p h [] = refl
filtered_map p h (x ∷ xs) = go (p (h x)) (filtered_map p h xs)
  where
    go : (here : Bool) → filter p (map h xs) ≡ map h (filter (λ y. p (h y)) xs)
        → cond here (h x ∷ filter p (map h xs)) (filter p (map h xs)) ≡ map h (cond here (x ∷ filter (λ y. p (h y)) xs) (filter (λ y. p (h y)) xs))
    go true rest = ap (λ ys. h x ∷ ys) rest
    go false rest = rest

pub one_more : {X Y : Type 0} (h : X → Y) (f : ℕ → Y) (before after : List X) (x : X) (n : ℕ) → after ≡ before ++ x ∷ []
    → map h before ≡ map f (range_with_len 0 n) → h x ≡ f n → map h after ≡ map f (range_with_len 0 (n + 1))
one_more h f before after x n grown so_far next =
    ap (map h) grown ∙ map-append h before (x ∷ []) ∙ ap (λ ys. ys ++ h x ∷ []) so_far ∙ ap (λ y. map f (range_with_len 0 n) ++ y ∷ []) next
    ∙ sym (map-range_with_len_more f 0 n n (omega arith))

pub one_flag_more : {X : Type 0} (f : ℕ → X) (before after : List X) (x : X) (n : ℕ) → after ≡ before ++ x ∷ []
    → before ≡ map f (range_with_len 0 n) → x ≡ f n → after ≡ map f (range_with_len 0 (n + 1))
one_flag_more f before after x n grown so_far next =
    grown ∙ ap (λ ys. ys ++ x ∷ []) so_far ∙ ap (λ y. map f (range_with_len 0 n) ++ y ∷ []) next ∙ sym (map-range_with_len_more f 0 n n (omega arith))

-- where none passes a test that another wants too, none passes that
pub none_passes : {X : Type 0} (p q : X → Bool) (xs : List X) → ((x : X) → p x ≡ false → q x ≡ false) → list_any p xs ≡ false → filter q xs ≡ []
none_passes p q [] wants none = refl
none_passes p q (x ∷ xs) wants none = go (p x) (q x) (wants x) none (none_passes p q xs wants)
  where
    go : (first second : Bool) → (first ≡ false → second ≡ false) → (first || list_any p xs) ≡ false → (list_any p xs ≡ false → filter q xs ≡ [])
        → cond second (x ∷ filter q xs) (filter q xs) ≡ []
    go false true wants none rest = absurd (let clash : true ≡ false = wants refl in cc)
    go false false wants none rest = rest none
    go true second wants none rest = absurd (let clash : true ≡ false = none in cc)
