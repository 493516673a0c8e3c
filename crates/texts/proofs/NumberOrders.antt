-- Numbers in digits: how they grow, and compare by their lengths, and then digit by digit.
use Rattle.std.proofs.Common.{◌≡◌, ℕ, ◌+◌, ◌-◌, ◌*◌, ◌<◌, ◌≤◌, Bool, true, false, List, [], ◌∷◌, length, refl, arith, ap, sym, ◌∙◌, inl, inr}
use Rattle.std.specs.Prelude.{◌&&◌, ◌==◌, not, cond, nat_le, Some, None}
use Rattle.std.specs.declared.cmp.Ordering.{Ordering}
use Rattle.std.specs.declared.cmp.Ordering.TheVariants.{Less, Equal, Greater}
use Rattle.std.specs.Ordering.{nat_cmp, ordering_then}
use Rattle.std.specs.Cmp.Lexicographic.{slice_cmp}
use Rattle.std.specs.List.{list_all}
use Rattle.std.specs.Cmp.{nat_cmp_is}
use Rattle.std.proofs.lemmas.Bool.{leb-true, cases_order}
use Rattle.std.proofs.lemmas.Bool.Decides.{nat_tests}
use Rattle.texts.specs.Bytes.{is_digit}
use Rattle.texts.specs.Numbers.{at_most, begins_well, compared, is_number, number_of, value_from}

-- the parts of a test that passes
left-true : (a b : Bool) → (a && b) ≡ true → a ≡ true
left-true true b is = refl
left-true false b is = is

right-true : (a b : Bool) → (a && b) ≡ true → b ≡ true
right-true true b is = is
right-true false b is = absurd cc

digit-low : (b : ℕ) → is_digit b ≡ true → 48 ≤ b
digit-low b is = leb-true 48 b (left-true (nat_le 48 b) (nat_le b 57) is)

digit-high : (b : ℕ) → is_digit b ≡ true → b ≤ 57
digit-high b is = leb-true b 57 (right-true (nat_le 48 b) (nat_le b 57) is)

-- Of as many digits, those behind a lower number stand for a lower one.
pub behind-lower : (m n : ℕ) (ds es : List ℕ) → m < n → length ds ≡ length es → list_all is_digit ds ≡ true → value_from m ds < value_from n es
behind-lower m n [] [] less same digits = less
behind-lower m n [] (e ∷ es) less same digits = absurd cc
behind-lower m n (d ∷ ds) [] less same digits = absurd cc
behind-lower m n (d ∷ ds) (e ∷ es) less same digits =
    let high = digit-high d (left-true (is_digit d) (list_all is_digit ds) digits) in
    behind-lower (m * 10 + (d - 48)) (n * 10 + (e - 48)) ds es (omega (arith, high)) (omega (arith, same)) (right-true (is_digit d) (list_all is_digit ds) digits)

-- Of as many digits behind the same number, the first ones that differ decide.
same-length : (m : ℕ) (ds es : List ℕ) → length ds ≡ length es → list_all is_digit ds ≡ true → list_all is_digit es ≡ true → slice_cmp nat_cmp ds es ≡ nat_cmp (value_from m ds) (value_from m es)
same-length m [] [] same left right = nat_cmp_is m m Equal refl
same-length m [] (e ∷ es) same left right = absurd cc
same-length m (d ∷ ds) [] same left right = absurd cc
same-length m (d ∷ ds) (e ∷ es) same left right =
    let more-left = right-true (is_digit d) (list_all is_digit ds) left in
    let more-right = right-true (is_digit e) (list_all is_digit es) right in
    let low-left = digit-low d (left-true (is_digit d) (list_all is_digit ds) left) in
    let low-right = digit-low e (left-true (is_digit e) (list_all is_digit es) right) in
    let m' = m * 10 + (d - 48) in
    let n' = m * 10 + (e - 48) in
    let long : length ds ≡ length es = omega (arith, same) in
    let with-first : (o : Ordering) → o ≡ nat_cmp d e → slice_cmp nat_cmp (d ∷ ds) (e ∷ es) ≡ ordering_then o (slice_cmp nat_cmp ds es) =
    λ o is. ap (λ x. ordering_then x (slice_cmp nat_cmp ds es)) (sym is)
    in
    elim (cases_order d e) [
      | inl equal ↦
          with-first Equal (nat_cmp_is d e Equal equal)
          ∙ same-length m' ds es long more-left more-right
          ∙ ap (λ x. nat_cmp (value_from m' ds) (value_from (m * 10 + (x - 48)) es)) equal
      | inr (inl less) ↦
          with-first Less (nat_cmp_is d e Less less)
          ∙ nat_cmp_is (value_from m' ds) (value_from n' es) Less (behind-lower m' n' ds es (omega (arith, less, low-left)) long more-left)
      | inr (inr greater) ↦
          with-first Greater (nat_cmp_is d e Greater greater)
          ∙ nat_cmp_is (value_from m' ds) (value_from n' es) Greater (behind-lower n' m' es ds (omega (arith, greater, low-right)) (sym long) more-right)
    ]

-- Digits behind a number above zero stand for more than as many without.
longer : (n : ℕ) (ds es : List ℕ) → 0 < n → length ds ≤ length es → list_all is_digit ds ≡ true → value_from 0 ds < value_from n es
longer n [] [] some long digits = some
longer n (d ∷ ds) [] some long digits = absurd (omega (arith, long))
longer n ds (e ∷ es) some long digits =
    elim (cases_order (length ds) (length (e ∷ es))) [
      | inl same ↦ behind-lower 0 n ds (e ∷ es) some same digits
      | inr (inl less) ↦ longer (n * 10 + (e - 48)) ds es (omega (arith, some)) (omega (arith, less)) digits
      | inr (inr greater) ↦ absurd (omega (arith, long, greater))
    ]

-- A number of fewer digits is less.
fewer-digits : (l r : List ℕ) → is_number l ≡ true → is_number r ≡ true → length l < length r → value_from 0 l < value_from 0 r
fewer-digits l [] left right less = absurd cc
fewer-digits [] (b ∷ []) left right less = absurd cc
fewer-digits (a ∷ l) (b ∷ []) left right less = absurd (omega (arith, less))
fewer-digits l (b ∷ c ∷ digits) left right less =
    let first : is_digit b ≡ true = left-true (is_digit b) _ (right-true (begins_well (b ∷ c ∷ digits)) (list_all is_digit (b ∷ c ∷ digits)) right) in
    let other : not (b == 48) ≡ true = left-true (begins_well (b ∷ c ∷ digits)) (list_all is_digit (b ∷ c ∷ digits)) right in
    let low = digit-low b first in
    let above : 48 < b = above-zero b low other in
    longer (0 * 10 + (b - 48)) l (c ∷ digits) (omega (arith, above)) (omega (arith, less)) (right-true (begins_well l) (list_all is_digit l) left)
  where
    above-zero : (b : ℕ) → 48 ≤ b → not (b == 48) ≡ true → 48 < b
    above-zero b low other = grind (arith, nat_tests)

by-length : (l r : List ℕ) → is_number l ≡ true → is_number r ≡ true → ordering_then (nat_cmp (length l) (length r)) (slice_cmp nat_cmp l r) ≡ nat_cmp (value_from 0 l) (value_from 0 r)
by-length l r left right =
    let with-lengths : (o : Ordering) → o ≡ nat_cmp (length l) (length r) → ordering_then (nat_cmp (length l) (length r)) (slice_cmp nat_cmp l r) ≡ ordering_then o (slice_cmp nat_cmp l r) =
    λ o is. ap (λ x. ordering_then x (slice_cmp nat_cmp l r)) (sym is)
    in
    elim (cases_order (length l) (length r)) [
      | inl same ↦
          with-lengths Equal (nat_cmp_is (length l) (length r) Equal same)
          ∙ same-length 0 l r same (right-true (begins_well l) (list_all is_digit l) left) (right-true (begins_well r) (list_all is_digit r) right)
      | inr (inl less) ↦
          with-lengths Less (nat_cmp_is (length l) (length r) Less less)
          ∙ nat_cmp_is (value_from 0 l) (value_from 0 r) Less (fewer-digits l r left right less)
      | inr (inr greater) ↦
          with-lengths Greater (nat_cmp_is (length l) (length r) Greater greater)
          ∙ nat_cmp_is (value_from 0 l) (value_from 0 r) Greater (fewer-digits r l right left greater)
    ]

pub number-is : (word : List ℕ) → is_number word ≡ true → number_of word ≡ Some (value_from 0 word)
number-is word is = ap (λ (b : Bool). cond b (Some (value_from 0 word)) None) is

pub both-compared : (l r : List ℕ) → is_number l ≡ true → is_number r ≡ true → Some (ordering_then (nat_cmp (length l) (length r)) (slice_cmp nat_cmp l r)) ≡ compared (number_of l) (number_of r)
both-compared l r left right =
    ap Some (by-length l r left right)
    ∙ sym (ap (λ o. compared o (number_of r)) (number-is l left) ∙ ap (compared (Some (value_from 0 l))) (number-is r right))

-- More digits stand for no less.
grows : (n : ℕ) (digits : List ℕ) → n ≤ value_from n digits
grows n [] = omega arith
grows n (b ∷ digits) = let more = grows (n * 10 + (b - 48)) digits in omega (arith, more)

-- a number that has grown past a limit
pub past-limit : (limit n : ℕ) (word digits : List ℕ) → is_number word ≡ true → value_from n digits ≡ value_from 0 word → limit < n → at_most limit (number_of word) ≡ None
past-limit limit n word digits is read past =
    let more = grows n digits in
    let above : limit < value_from 0 word = omega (arith, more, read, past) in
    ap (at_most limit) (number-is word is) ∙ none (value_from 0 word) above
  where
    none : (v : ℕ) → limit < v → at_most limit (Some v) ≡ None
    none v above = grind (arith, nat_tests)
