-- Lists at an index.
use Rattle.std.proofs.Common.{◌≡◌, ℕ, zero, suc, ◌<◌, Bool, true, false, List, [], ◌∷◌, ◌⊎◌, inl, inr, refl, ap, sym, map, arith, length}
use Rattle.std.specs.Prelude.{Option, Some, slice_set}
use Rattle.std.specs.List.{slice_get, slice_index_or, list_all, list_any}
use Rattle.rights.proofs.Tests.{both_left, both_right, neither}

-- what holds of the new element, where it stands, and of what was there, holds of what is there
pub slice_get-set_cases : {A : Type 0} (Q : Option A → Type 0) (xs : List A) (p : ℕ) (v : A) (m : ℕ) → (m ≡ p → Q (Some v)) → Q (slice_get xs m) → Q (slice_get (slice_set xs p v) m)
slice_get-set_cases Q [] p v m here there = there
slice_get-set_cases Q (x ∷ xs) zero v zero here there = here refl
slice_get-set_cases Q (x ∷ xs) zero v (suc m) here there = there
slice_get-set_cases Q (x ∷ xs) (suc p) v zero here there = there
slice_get-set_cases Q (x ∷ xs) (suc p) v (suc m) here there =
    slice_get-set_cases Q xs p v m (λ same. here (ap suc same)) there

pub slice_get-set_same : {A : Type 0} (xs : List A) (p : ℕ) (x v : A) → slice_get xs p ≡ Some x → slice_get (slice_set xs p v) p ≡ Some v
slice_get-set_same [] p x v h = absurd cc
slice_get-set_same (y ∷ xs) zero x v h = refl
slice_get-set_same (y ∷ xs) (suc p) x v h = slice_get-set_same xs p x v h

-- a test that each element passes
pub list_all-slice_get : {A : Type 0} (test : A → Bool) (xs : List A) (i : ℕ) (x : A) → list_all test xs ≡ true → slice_get xs i ≡ Some x → test x ≡ true
list_all-slice_get test [] i x all here = absurd cc
list_all-slice_get test (y ∷ xs) zero x all here =
    let same : y ≡ x = cc in
    let passes : test y ≡ true = both_left (test y) (list_all test xs) all in
    cc
list_all-slice_get test (y ∷ xs) (suc i) x all here =
    list_all-slice_get test xs i x (both_right (test y) (list_all test xs) all) here

-- the same where the list may be too short
pub list_all-slice_index_or : {A : Type 0} (test : A → Bool) (xs : List A) (i : ℕ) (d : A) → list_all test xs ≡ true → (slice_index_or xs i d ≡ d) ⊎ (test (slice_index_or xs i d) ≡ true)
list_all-slice_index_or test [] i d all = inl refl
list_all-slice_index_or test (y ∷ xs) zero d all = inr (both_left (test y) (list_all test xs) all)
list_all-slice_index_or test (y ∷ xs) (suc i) d all =
    list_all-slice_index_or test xs i d (both_right (test y) (list_all test xs) all)

pub list_any-false : {A : Type 0} (test : A → Bool) (xs : List A) → ((i : ℕ) (x : A) → slice_get xs i ≡ Some x → test x ≡ false) → list_any test xs ≡ false
list_any-false test [] none = refl
list_any-false test (x ∷ xs) none =
    neither (test x) (list_any test xs) (none zero x refl) (list_any-false test xs (λ i y here. none (suc i) y here))

-- an element that is seen through a function
pub slice_index_or-map : {A B : Type 0} (f : A → B) (xs : List A) (i : ℕ) (x : A) (d : B) → i < length xs → x ≡ slice_index_or xs i x → slice_index_or (map f xs) i d ≡ f x
slice_index_or-map f [] i x d within is = absurd (omega arith)
slice_index_or-map f (y ∷ xs) zero x d within is = ap f (sym is)
slice_index_or-map f (y ∷ xs) (suc i) x d within is = slice_index_or-map f xs i x d (omega arith) is
