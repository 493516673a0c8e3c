-- Sets by their members.
use Rattle.std.proofs.Common.{◌≡◌, ℕ, ◌<◌, true, bit_and, bit_or, arith, ap, ◌∙◌, refl, zero, suc, ◌⊎◌, inl, inr}
use Rattle.std.specs.Prelude.{min}
use Rattle.std.specs.Int.{bit_at}
use Rattle.std.proofs.lemmas.Bool.{eqb-true, eq-eqb}
use Rattle.std.proofs.lemmas.Nat.Bits.{same_from_bits, bit_at_and, bit_at_or, bit_at-lt}
use Rattle.std.specs.Int.Bits.{and_zero_r}
use Rattle.rights.specs.Sets.{IsIn, IsWithin, is_within}

-- the test says whether each member of the small set is in the large one
pub is_within-members : (small large : ℕ) → is_within small large ≡ true → IsWithin small large
is_within-members small large h k in_small =
    let same : bit_and large small ≡ small = eqb-true _ _ h in
    let bits : bit_at (bit_and large small) k ≡ bit_at small k = ap (λ n. bit_at n k) same in
    omega (arith, bits, bit_at_and large small k, bit_at-lt large k, in_small)

one_or_none : (n : ℕ) → n < 2 → (n ≡ 1) ⊎ (n ≡ 0)
one_or_none zero h = inr refl
one_or_none (suc zero) h = inl refl
one_or_none (suc (suc n)) h = absurd (omega arith)

smaller : (a b : ℕ) → a < 2 → b < 2 → (a ≡ 1 → b ≡ 1) → min b a ≡ a
smaller a b bit_a bit_b h = elim (one_or_none a bit_a) [ inl one ↦ let both : b ≡ 1 = h one in omega arith | inr none ↦ omega arith ]

pub is_within-from_members : (small large : ℕ) → IsWithin small large → is_within small large ≡ true
is_within-from_members small large h =
    eq-eqb _ _ (same_from_bits _ _ (λ k.
    bit_at_and large small k ∙ smaller (bit_at small k) (bit_at large k) (bit_at-lt small k) (bit_at-lt large k) (h k)))

-- the empty set is within each, each set is within itself, and within goes on
pub is_within-refl : (set : ℕ) → is_within set set ≡ true
is_within-refl set = is_within-from_members set set (λ k h. h)

pub is_within-none : (set : ℕ) → is_within 0 set ≡ true
is_within-none set = eq-eqb _ _ (and_zero_r set)

pub is_within-trans : (a b c : ℕ) → is_within a b ≡ true → is_within b c ≡ true → is_within a c ≡ true
is_within-trans a b c ab bc =
    is_within-from_members a c (λ k h. is_within-members b c bc k (is_within-members a b ab k h))

-- a member of the union is in either set, and a member of the intersection in both
pub IsIn-or : (a b k : ℕ) → IsIn (bit_or a b) k → (bit_at a k ≡ 0 → IsIn b k)
IsIn-or a b k h none = omega (arith, bit_at_or a b k, bit_at-lt a k, bit_at-lt b k, h, none)

pub IsIn-or_left : (a b k : ℕ) → IsIn a k → IsIn (bit_or a b) k
IsIn-or_left a b k h = omega (arith, bit_at_or a b k, bit_at-lt b k, h)

pub IsIn-or_right : (a b k : ℕ) → IsIn b k → IsIn (bit_or a b) k
IsIn-or_right a b k h = omega (arith, bit_at_or a b k, bit_at-lt a k, h)

pub IsIn-and : (a b k : ℕ) → IsIn (bit_and a b) k → IsIn a k × IsIn b k
IsIn-and a b k h =
    let left : bit_at a k ≡ 1 = omega (arith, bit_at_and a b k, bit_at-lt a k, bit_at-lt b k, h) in
    let right : bit_at b k ≡ 1 = omega (arith, bit_at_and a b k, bit_at-lt a k, bit_at-lt b k, h) in
    (left, right)

pub IsIn-and_both : (a b k : ℕ) → IsIn a k → IsIn b k → IsIn (bit_and a b) k
IsIn-and_both a b k in_a in_b = omega (arith, bit_at_and a b k, in_a, in_b)

-- the union of two sets that are within a third is within it
pub is_within-or : (a b set : ℕ) → is_within a set ≡ true → is_within b set ≡ true → is_within (bit_or a b) set ≡ true
is_within-or a b set within_a within_b =
    is_within-from_members _ set (λ k h. elim (one_or_none (bit_at a k) (bit_at-lt a k)) [
      | inl one ↦ is_within-members a set within_a k one
      | inr none ↦ is_within-members b set within_b k (IsIn-or a b k h none)
    ])
