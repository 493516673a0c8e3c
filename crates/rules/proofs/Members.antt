-- Members of lists: what a test of all says of each, and members of what is made from lists.
use Rattle.std.proofs.Common.{◌≡◌, ◌⊎◌, inl, inr, Bool, true, List, [], ◌∷◌, ◌++◌, ap, sym, subst}
use Rattle.std.specs.Prelude.{map}
use Rattle.std.specs.List.{list_all, flat_map}
use Rattle.rights.proofs.Tests.{both_left, both_right}

-- x is an element of the list
abbrev pub Among : {A : Type 0} → A → List A → Type 0
Among x [] = ⊥
Among x (y ∷ ys) = (x ≡ y) ⊎ Among x ys

pub each_of : {A : Type 0} (test : A → Bool) (xs : List A) → list_all test xs ≡ true → (x : A) → Among x xs → test x ≡ true
each_of test [] all x none = absurd none
each_of test (y ∷ ys) all x (inl same) =
    subst (λ z. test z ≡ true) (sym same) (both_left _ (list_all test ys) all)
each_of test (y ∷ ys) all x (inr later) = each_of test ys (both_right (test y) _ all) x later

pub among_left : {A : Type 0} (x : A) (xs ys : List A) → Among x xs → Among x (xs ++ ys)
among_left x [] ys none = absurd none
among_left x (y ∷ xs) ys (inl same) = inl same
among_left x (y ∷ xs) ys (inr later) = inr (among_left x xs ys later)

pub among_right : {A : Type 0} (x : A) (xs ys : List A) → Among x ys → Among x (xs ++ ys)
among_right x [] ys there = there
among_right x (y ∷ xs) ys there = inr (among_right x xs ys there)

pub among_map : {A B : Type 0} (f : A → B) (x : A) (xs : List A) → Among x xs → Among (f x) (map f xs)
among_map f x [] none = absurd none
among_map f x (y ∷ xs) (inl same) = inl (ap f same)
among_map f x (y ∷ xs) (inr later) = inr (among_map f x xs later)

pub among_flat : {A B : Type 0} (f : A → List B) (x : A) (z : B) (xs : List A) → Among x xs → Among z (f x) → Among z (flat_map f xs)
among_flat f x z [] none there = absurd none
among_flat f x z (y ∷ xs) (inl same) there =
    among_left z (f y) (flat_map f xs) (subst (λ k. Among z (f k)) same there)
among_flat f x z (y ∷ xs) (inr later) there =
    among_right z (f y) (flat_map f xs) (among_flat f x z xs later there)
