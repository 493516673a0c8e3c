-- What instructions make of intervals has the values that they make of the values in them.
use Rattle.std.proofs.Common.{◌≡◌, ◌≢◌, ℕ, ◌+◌, ◌%◌, ◌<◌, ◌≤◌, ◌^◌, Bool, true, false, refl, arith, subst}
use Rattle.std.specs.Prelude.{◌==◌, ◌&&◌, ◌||◌, ◌-◌, nat_le, nat_lt, min, max, Option, Some, None, if◌then◌else◌}
use Rattle.std.specs.Cmp.Derive.{both_true}
use Rattle.std.proofs.lemmas.Bool.{eqb-true, leb-true, le-leb, ltb-true, lt-ltb, ltb-false}
use Rattle.rights.proofs.Tests.{both_left, both_right}
use Rattle.certificate.specs.Bounds.{Interval, full_interval}
use Rattle.certificate.specs.Describes.{interval_describes}
use Rattle.rules.specs.Intervals.{only, sums, equal_part, trimmed, other_part, lower_part, upper_part}

low_of : (i : Interval) (k : ℕ) → interval_describes i k ≡ true → i.low ≤ k
low_of i k fits = leb-true _ _ (both_left _ (nat_le k i.high) fits)

high_of : (i : Interval) (k : ℕ) → interval_describes i k ≡ true → k ≤ i.high
high_of i k fits = leb-true _ _ (both_right (nat_le i.low k) _ fits)

pub inside_of : (i : Interval) (k : ℕ) → i.low ≤ k → k ≤ i.high → interval_describes i k ≡ true
inside_of i k low high = both_true (le-leb i.low k low) (le-leb k i.high high)

pub only_fits : (value : ℕ) → interval_describes (only value) value ≡ true
only_fits value = inside_of (only value) value (omega arith) (omega arith)

pub sum_fits : (i j : Interval) (k m : ℕ) → interval_describes i k ≡ true → interval_describes j m ≡ true → interval_describes (sums i j) ((k + m) % 2 ^ 32) ≡ true
sum_fits i j k m here there = go (nat_lt (i.low + j.low) (2 ^ 32)) (nat_lt (i.high + j.high) (2 ^ 32)) refl
  where
    low : i.low ≤ k
    low = low_of i k here

    high : k ≤ i.high
    high = high_of i k here

    low_too : j.low ≤ m
    low_too = low_of j m there

    high_too : m ≤ j.high
    high_too = high_of j m there

    any : interval_describes full_interval ((k + m) % 2 ^ 32) ≡ true
    any = inside_of full_interval ((k + m) % 2 ^ 32) (omega arith) (omega arith)

    go : (a b : Bool) → nat_lt (i.high + j.high) (2 ^ 32) ≡ b → interval_describes (if a && b then record { low = i.low + j.low; high = i.high + j.high } else full_interval) ((k + m) % 2 ^ 32) ≡ true
    go false b is = any
    go true false is = any
    go true true is =
        let small : i.high + j.high < 2 ^ 32 = ltb-true _ _ is in
        inside_of (record { low = i.low + j.low; high = i.high + j.high }) ((k + m) % 2 ^ 32) (omega (arith, low, low_too, high, high_too)) (omega (arith, low, low_too, high, high_too))

-- a part that is there, and has the value
pub record HasPart (part : Option Interval) (k : ℕ) : Type 0 where
  pub interval : Interval
  pub is : part ≡ Some interval
  pub fits : interval_describes interval k ≡ true

part_there : (test : Bool) (part : Interval) (k : ℕ) → test ≡ true → interval_describes part k ≡ true → HasPart (if test then Some part else None) k
part_there true part k is fits = record { interval = part; is = refl; fits = fits }
part_there false part k is fits = absurd cc

pub has_equal : (i : Interval) (value k : ℕ) → interval_describes i k ≡ true → k ≡ value → HasPart (equal_part i value) k
has_equal i value k fits same =
    part_there (nat_le i.low value && nat_le value i.high) (only value) k (subst (λ m. interval_describes i m ≡ true) same fits)
    (inside_of (only value) k (omega (arith, same)) (omega (arith, same)))

-- a number that isn't the value stays in the interval without it
stays_in : (i : Interval) (value k : ℕ) → interval_describes i k ≡ true → k ≢ value → interval_describes (trimmed i value) k ≡ true
stays_in i value k fits other = go (i.low == value) (i.high == value) refl refl
  where
    low : i.low ≤ k
    low = low_of i k fits

    high : k ≤ i.high
    high = high_of i k fits

    go :
        (a b : Bool) → (i.low == value) ≡ a → (i.high == value) ≡ b
        → interval_describes (if a then record { low = i.low + 1; high = i.high } else (if b then record { low = i.low; high = i.high - 1 } else i)) k ≡ true
    go true b at_low is =
        let same : i.low ≡ value = eqb-true _ _ at_low in
        inside_of (record { low = i.low + 1; high = i.high }) k (omega (arith, same, low, other)) high
    go false true is at_high =
        let same : i.high ≡ value = eqb-true _ _ at_high in
        inside_of (record { low = i.low; high = i.high - 1 }) k low (omega (arith, same, high, other))
    go false false is also = fits

another : (i : Interval) (value k : ℕ) → interval_describes i k ≡ true → k ≢ value → (nat_lt i.low value || nat_lt value i.high) ≡ true
another i value k fits other = go (nat_lt i.low value) (nat_lt value i.high) refl refl
  where
    go : (a b : Bool) → nat_lt i.low value ≡ a → nat_lt value i.high ≡ b → (a || b) ≡ true
    go true b below is = refl
    go false true is above = refl
    go false false is also =
        let low : i.low ≤ k = low_of i k fits in
        let high : k ≤ i.high = high_of i k fits in
        let first : value ≤ i.low = ltb-false i.low value is in
        let last : i.high ≤ value = ltb-false value i.high also in
        absurd (other (omega (arith, low, high, first, last)))

pub has_other : (i : Interval) (value k : ℕ) → interval_describes i k ≡ true → k ≢ value → HasPart (other_part i value) k
has_other i value k fits other =
    part_there (nat_lt i.low value || nat_lt value i.high) (trimmed i value) k (another i value k fits other) (stays_in i value k fits other)

pub has_lower : (i : Interval) (value k : ℕ) → interval_describes i k ≡ true → k < value → HasPart (lower_part i value) k
has_lower i value k fits less =
    let low : i.low ≤ k = low_of i k fits in
    let high : k ≤ i.high = high_of i k fits in
    part_there (nat_lt i.low value) (record { low = i.low; high = min i.high (value - 1) }) k (lt-ltb i.low value (omega arith))
    (inside_of (record { low = i.low; high = min i.high (value - 1) }) k low (omega arith))

pub has_upper : (i : Interval) (value k : ℕ) → interval_describes i k ≡ true → value ≤ k → HasPart (upper_part i value) k
has_upper i value k fits from =
    let low : i.low ≤ k = low_of i k fits in
    let high : k ≤ i.high = high_of i k fits in
    part_there (nat_le value i.high) (record { low = max i.low value; high = i.high }) k (le-leb value i.high (omega arith))
    (inside_of (record { low = max i.low value; high = i.high }) k (omega arith) high)
