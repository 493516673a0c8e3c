-- Different things, listed one after another.
use Rattle.std.proofs.Common.{◌≡◌, ◌<◌, ◌≤◌, ◌++◌, ◌∷◌, [], ℕ, Bool, true, false, List, length, refl, ap, sym, ◌∙◌, arith, rules}
use Rattle.std.specs.Prelude.{Some, None, nat_le, if◌then◌else◌}
use Rattle.std.specs.List.{list_any}
use Rattle.std.proofs.lemmas.List.{length_push}
use Rattle.std.proofs.lemmas.Bool.Decides.{nat_tests}
use Rattle.certificate.specs.Growth.{distinct_behind}
use Rattle.certificate.specs.Room.{if_few, listed_with}

pub behind-append : {A : Type 0} (same : A → A → Bool) (listed xs ys : List A)
    → distinct_behind same listed (xs ++ ys) ≡ distinct_behind same (distinct_behind same listed xs) ys
unfolding distinct_behind
behind-append same listed [] ys = refl
behind-append same listed (x ∷ xs) ys = behind-append same (if list_any (λ y. same y x) listed then listed else listed ++ x ∷ []) xs ys

pub behind-nil : {A : Type 0} (same : A → A → Bool) (listed : List A) → distinct_behind same listed [] ≡ listed
unfolding distinct_behind
behind-nil same listed = refl

-- one more, that is listed already or isn't
pub behind-listed : {A : Type 0} (same : A → A → Bool) (listed : List A) (x : A) → list_any (λ y. same y x) listed ≡ true
    → distinct_behind same listed (x ∷ []) ≡ listed
unfolding distinct_behind
behind-listed same listed x is = ap (λ (b : Bool). if b then listed else listed ++ x ∷ []) is

pub behind-new : {A : Type 0} (same : A → A → Bool) (listed : List A) (x : A) → list_any (λ y. same y x) listed ≡ false
    → distinct_behind same listed (x ∷ []) ≡ listed ++ x ∷ []
unfolding distinct_behind
behind-new same listed x is = ap (λ (b : Bool). if b then listed else listed ++ x ∷ []) is

grows_by : {A : Type 0} (b : Bool) (listed : List A) (x : A) → length listed ≤ length (if b then listed else listed ++ x ∷ [])
grows_by true listed x = omega arith
grows_by false listed x = omega (arith, length_push listed x)

pub behind-grows : {A : Type 0} (same : A → A → Bool) (listed xs : List A) → length listed ≤ length (distinct_behind same listed xs)
unfolding distinct_behind
behind-grows same listed [] = omega arith
behind-grows same listed (x ∷ xs) =
    let more = grows_by (list_any (λ y. same y x) listed) listed x in
    let rest = behind-grows same (if list_any (λ y. same y x) listed then listed else listed ++ x ∷ []) xs in
    omega (arith, more, rest)

-- what is listed with more
few_true : {A : Type 0} (most : ℕ) (xs : List A) → nat_le (length xs) most ≡ true → if_few most xs ≡ Some xs
few_true most xs few = ap (λ (b : Bool). if b then Some xs else None) few

few_false : {A : Type 0} (most : ℕ) (xs : List A) → nat_le (length xs) most ≡ false → if_few most xs ≡ None
few_false most xs many = ap (λ (b : Bool). if b then Some xs else None) many

pub few_some : {A : Type 0} (most : ℕ) (xs : List A) → length xs ≤ most → if_few most xs ≡ Some xs
few_some most xs few = few_true most xs (search (rules, few))

pub few_none : {A : Type 0} (most : ℕ) (xs : List A) → most < length xs → if_few most xs ≡ None
few_none most xs many = few_false most xs (search (rules, many))

-- and back
few_cases : {A : Type 0} (b : Bool) (xs k : List A) → Some k ≡ (if b then Some xs else None) → (b ≡ true) × (k ≡ xs)
few_cases true xs k is = (refl, cc)
few_cases false xs k is = absurd cc

pub few_some-back : {A : Type 0} (most : ℕ) (xs k : List A) → Some k ≡ if_few most xs → (nat_le (length xs) most ≡ true) × (k ≡ xs)
few_some-back most xs k is = few_cases (nat_le (length xs) most) xs k is

none_cases : {A : Type 0} (b : Bool) (xs : List A) → None ≡ (if b then Some xs else None) → b ≡ false
none_cases true xs is = absurd cc
none_cases false xs is = refl

pub few_none-back : {A : Type 0} (most : ℕ) (xs : List A) → None ≡ if_few most xs → nat_le (length xs) most ≡ false
few_none-back most xs is = none_cases (nat_le (length xs) most) xs is

pub listed_nothing : {A : Type 0} (same : A → A → Bool) (most : ℕ) (listed : List A) → length listed ≤ most → listed_with same most listed [] ≡ Some listed
listed_nothing same most listed few = ap (if_few most) (behind-nil same listed) ∙ few_some most listed few

pub listed_known : {A : Type 0} (same : A → A → Bool) (most : ℕ) (listed : List A) (x : A) → length listed ≤ most
    → list_any (λ y. same y x) listed ≡ true → listed_with same most listed (x ∷ []) ≡ Some listed
listed_known same most listed x few is = ap (if_few most) (behind-listed same listed x is) ∙ few_some most listed few

pub listed_new : {A : Type 0} (same : A → A → Bool) (most : ℕ) (listed : List A) (x : A) → length listed < most
    → list_any (λ y. same y x) listed ≡ false → listed_with same most listed (x ∷ []) ≡ Some (listed ++ x ∷ [])
listed_new same most listed x few is =
    let long = length_push listed x in
    ap (if_few most) (behind-new same listed x is) ∙ few_some most (listed ++ x ∷ []) (omega (arith, long, few))

pub listed_full : {A : Type 0} (same : A → A → Bool) (most : ℕ) (listed : List A) (x : A) → length listed ≡ most
    → list_any (λ y. same y x) listed ≡ false → listed_with same most listed (x ∷ []) ≡ None
listed_full same most listed x full is =
    let long = length_push listed x in
    ap (if_few most) (behind-new same listed x is) ∙ few_none most (listed ++ x ∷ []) (omega (arith, long, full))

-- some and then others
pub listed-append : {A : Type 0} (same : A → A → Bool) (most : ℕ) (listed xs ys k : List A) → Some k ≡ listed_with same most listed xs
    → listed_with same most listed (xs ++ ys) ≡ listed_with same most k ys
listed-append same most listed xs ys k is =
    let known = few_some-back most (distinct_behind same listed xs) k is in
    ap (if_few most) (behind-append same listed xs ys ∙ ap (λ list. distinct_behind same list ys) (sym known.1))

more_than : (m n most : ℕ) → m ≤ n → nat_le m most ≡ false → nat_le n most ≡ false
more_than m n most le many = grind (arith, nat_tests, le, many)

pub listed-append_none : {A : Type 0} (same : A → A → Bool) (most : ℕ) (listed xs ys : List A) → None ≡ listed_with same most listed xs
    → listed_with same most listed (xs ++ ys) ≡ None
listed-append_none same most listed xs ys is =
    let many = few_none-back most (distinct_behind same listed xs) is in
    let grows = behind-grows same (distinct_behind same listed xs) ys in
    ap (if_few most) (behind-append same listed xs ys)
    ∙ few_false most (distinct_behind same (distinct_behind same listed xs) ys) (more_than _ _ most grows many)
