-- What slots come to where those alone are kept that were bounded.
use Rattle.std.proofs.Common.{◌≡◌, ◌<◌, ◌++◌, ◌∷◌, [], Bool, true, ℕ, zero, suc, List, refl, ap, ◌∙◌, arith}
use Rattle.std.specs.Prelude.{nat_lt, slice_set}
use Rattle.std.specs.List.{list_all}
use Rattle.std.proofs.lemmas.Bool.{ltb-true}
use Rattle.certificate.specs.declared.points.NumberedSlot.{NumberedSlot}
use Rattle.certificate.specs.Bounds.{Slot, Closed}
use Rattle.certificate.specs.Growth.{all_from, copies}
use Rattle.certificate.specs.Lines.{is_closed}
use Rattle.certificate.specs.Views.{slot_of, slots_with}
use Rattle.certificate.proofs.Growing.{and_left, and_right}

pub none_kept : (slots : List Slot) (kept : List NumberedSlot) → kept ≡ [] → slots_with slots kept ≡ slots
unfolding slots_with
none_kept slots kept is = ap (slots_with slots) is

more_kept : (slots : List Slot) (kept : List NumberedSlot) (k : NumberedSlot)
    → slots_with slots (kept ++ k ∷ []) ≡ slice_set (slots_with slots kept) k.number (slot_of k.slot)
unfolding slots_with
more_kept slots [] k = refl
more_kept slots (j ∷ kept) k = more_kept (slice_set slots j.number (slot_of j.slot)) kept k

pub one_more : (slots : List Slot) (kept more : List NumberedSlot) (k : NumberedSlot) → more ≡ kept ++ k ∷ []
    → slots_with slots more ≡ slice_set (slots_with slots kept) k.number (slot_of k.slot)
one_more slots kept more k is = ap (slots_with slots) is ∙ more_kept slots kept k

-- Slots from a number on stay where those below it alone are bounded.
all_from-below : {A : Type 0} (test : A → Bool) (n k : ℕ) (xs : List A) (x : A) → k < n → all_from test n (slice_set xs k x) ≡ all_from test n xs
unfolding all_from
all_from-below test n k [] x below = refl
all_from-below test zero k (y ∷ xs) x below = absurd (omega (arith, below))
all_from-below test (suc n) zero (y ∷ xs) x below = refl
all_from-below test (suc n) (suc k) (y ∷ xs) x below = all_from-below test n k xs x (omega (arith, below))

below_kept : (n : ℕ) (slots : List Slot) (kept : List NumberedSlot) → list_all (λ (k : NumberedSlot). nat_lt k.number n) kept ≡ true
    → all_from is_closed n (slots_with slots kept) ≡ all_from is_closed n slots
unfolding slots_with
below_kept n slots [] all = refl
below_kept n slots (k ∷ kept) all =
    let below = ltb-true k.number n (and_left (nat_lt k.number n) (list_all (λ (k : NumberedSlot). nat_lt k.number n) kept) all) in
    let rest = and_right (nat_lt k.number n) (list_all (λ (k : NumberedSlot). nat_lt k.number n) kept) all in
    below_kept n (slice_set slots k.number (slot_of k.slot)) kept rest ∙ all_from-below is_closed n k.number slots (slot_of k.slot) below

closed_copies : (n m : ℕ) → all_from is_closed n (copies m Closed) ≡ true
unfolding all_from
closed_copies n zero = refl
closed_copies zero (suc m) = closed_copies zero m
closed_copies (suc n) (suc m) = closed_copies n m

pub closed_above : (n m : ℕ) (kept : List NumberedSlot) → list_all (λ (k : NumberedSlot). nat_lt k.number n) kept ≡ true
    → all_from is_closed n (slots_with (copies m Closed) kept) ≡ true
closed_above n m kept all = below_kept n (copies m Closed) kept all ∙ closed_copies n m
