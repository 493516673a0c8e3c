-- Sums over lists of slots, of which one is changed.
use Rattle.std.proofs.Common.{◌≡◌, ◌≢◌, ℕ, zero, suc, ◌+◌, ◌<◌, ◌≤◌, List, [], ◌∷◌, length, refl, ap, ◌∙◌, sym, subst, arith}
use Rattle.std.specs.Prelude.{Option, None}
use Rattle.std.specs.List.{sum_by}
use Rattle.std.proofs.lemmas.List.Sums.{sum_by-cons}
use Rattle.std.proofs.Math.Decide.{ℕ_discrete}
use Rattle.fd_table.specs.Kept.{item_at}
use Rattle.fd_table.specs.Changes.{Changed}

pub changed-cases : {A : Type 0} (Q : Option A → Type 0) (old new : List (Option A)) (key : ℕ) (v : Option A) → Changed old new key v → (n : ℕ) →
    (n ≡ key → Q v) → (n ≢ key → Q (item_at old n)) → Q (item_at new n)
changed-cases Q old new key v change n here there = go (ℕ_discrete n key)
  where
    go : Dec (n ≡ key) → Q (item_at new n)
    go (yes same) = subst Q (sym (ap (λ i. item_at new i) same ∙ change.changed)) (here same)
    go (no other) = subst Q (sym (change.others n other)) (there other)

sum_nil : {A : Type 0} (f : Option A → ℕ) → sum_by f [] ≡ 0
sum_nil f = refl

-- what has nothing anywhere sums up to nothing
sum_none : {A : Type 0} (f : Option A → ℕ) (xs : List (Option A)) → f None ≡ 0 → ((n : ℕ) → item_at xs n ≡ None) → sum_by f xs ≡ 0
sum_none f [] nothing none = sum_nil f
sum_none f (x ∷ xs) nothing none =
    let rest = sum_none f xs nothing (λ n. none (suc n)) in
    let head : f x ≡ 0 = ap f (none 0) ∙ nothing in
    omega (arith, sum_by-cons f x xs, rest, head)

-- lists that have the same at each number have the same sum
pub sum_same : {A : Type 0} (f : Option A → ℕ) (xs ys : List (Option A)) → f None ≡ 0 → ((n : ℕ) → item_at ys n ≡ item_at xs n) → sum_by f ys ≡ sum_by f xs
sum_same f [] ys nothing same = sum_none f ys nothing same ∙ sym (sum_nil f)
sum_same f (x ∷ xs) [] nothing same = sum_nil f ∙ sym (sum_none f (x ∷ xs) nothing (λ n. sym (same n)))
sum_same f (x ∷ xs) (y ∷ ys) nothing same =
    let rest = sum_same f xs ys nothing (λ n. same (suc n)) in
    let head : f y ≡ f x = ap f (same 0) in
    omega (arith, sum_by-cons f x xs, sum_by-cons f y ys, rest, head)

apart_suc : (n key : ℕ) → n ≢ key → suc n ≢ suc key
apart_suc n key other same = other (omega (arith, same))

-- one slot is changed
pub sum_changed : {A : Type 0} (f : Option A → ℕ) (xs ys : List (Option A)) (key : ℕ) (v : Option A) → f None ≡ 0 → Changed xs ys key v → sum_by f ys + f (item_at xs key) ≡ sum_by f xs + f v
sum_changed f [] [] key v nothing change =
    let gone : f v ≡ 0 = ap f (sym change.changed) ∙ nothing in
    omega (arith, nothing, gone)
sum_changed f [] (y ∷ ys) zero v nothing change =
    let rest = sum_none f ys nothing (λ n. change.others (suc n) (λ same. omega (arith, same))) in
    let head : f y ≡ f v = ap f change.changed in
    omega (arith, sum_by-cons f y ys, sum_nil f, nothing, rest, head)
sum_changed f [] (y ∷ ys) (suc key) v nothing change =
    let rest = sum_changed f [] ys key v nothing (record { changed = change.changed; others = λ n other. change.others (suc n) (apart_suc n key other) }) in
    let head : f y ≡ 0 = ap f (change.others 0 (λ same. omega (arith, same))) ∙ nothing in
    omega (arith, sum_by-cons f y ys, nothing, rest, head)
sum_changed f (x ∷ xs) [] zero v nothing change =
    let rest = sum_none f xs nothing (λ n. sym (change.others (suc n) (λ same. omega (arith, same)))) in
    let head : f v ≡ 0 = ap f (sym change.changed) ∙ nothing in
    omega (arith, sum_by-cons f x xs, sum_nil f, rest, head)
sum_changed f (x ∷ xs) [] (suc key) v nothing change =
    let rest = sum_changed f xs [] key v nothing (record { changed = change.changed; others = λ n other. change.others (suc n) (apart_suc n key other) }) in
    let head : f x ≡ 0 = ap f (sym (change.others 0 (λ same. omega (arith, same)))) ∙ nothing in
    omega (arith, sum_by-cons f x xs, rest, head)
sum_changed f (x ∷ xs) (y ∷ ys) zero v nothing change =
    let rest = sum_same f xs ys nothing (λ n. change.others (suc n) (λ same. omega (arith, same))) in
    let head : f y ≡ f v = ap f change.changed in
    omega (arith, sum_by-cons f x xs, sum_by-cons f y ys, rest, head)
sum_changed f (x ∷ xs) (y ∷ ys) (suc key) v nothing change =
    let rest = sum_changed f xs ys key v nothing (record { changed = change.changed; others = λ n other. change.others (suc n) (apart_suc n key other) }) in
    let head : f y ≡ f x = ap f (change.others 0 (λ same. omega (arith, same))) in
    omega (arith, sum_by-cons f x xs, sum_by-cons f y ys, rest, head)

-- each part is at most the sum, and a sum of nothings is nothing
pub sum_at : {A : Type 0} (f : Option A → ℕ) (xs : List (Option A)) (i : ℕ) → f None ≡ 0 → f (item_at xs i) ≤ sum_by f xs
sum_at f [] i nothing = omega (arith, nothing)
sum_at f (x ∷ xs) zero nothing = omega (arith, sum_by-cons f x xs)
sum_at f (x ∷ xs) (suc i) nothing = omega (arith, sum_by-cons f x xs, sum_at f xs i nothing)

pub sum_zero : {A : Type 0} (f : Option A → ℕ) (xs : List (Option A)) → ((i : ℕ) → i < length xs → f (item_at xs i) ≡ 0) → sum_by f xs ≡ 0
sum_zero f [] none = sum_nil f
sum_zero f (x ∷ xs) none =
    let rest = sum_zero f xs (λ i below. none (suc i) (omega (arith, below))) in
    omega (arith, sum_by-cons f x xs, none 0 (omega arith), rest)
