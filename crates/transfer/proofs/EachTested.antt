-- Tests of outcomes, of one list and then of another.
use Rattle.std.proofs.Common.{◌≡◌, ◌≤◌, ◌+◌, ◌-◌, ℕ, Bool, true, false, List, [], ◌∷◌, ◌++◌, length, map, drop, take, get_or, ap, sym, ◌∙◌, arith}
use Rattle.std.specs.Prelude.{◌&&◌, Option}
use Rattle.std.specs.List.{flat_map, list_all}
use Rattle.std.proofs.lemmas.Grind.{flat_map-append}
use Rattle.std.proofs.lemmas.List.{take_rest}
use Rattle.std.proofs.lemmas.List.Folds.{list_all-append}
use Rattle.certificate.specs.Bounds.{Bound, Interval}
use Rattle.certificate.specs.Views.{slot_of}
use Rattle.certificate.specs.declared.bounds.Slot.{Slot as SlotCode}
use Rattle.rules.specs.Outcomes.{Outcome}
use Rattle.rules.specs.Slots.{OpenSlot, slots_from}
use Rattle.transfer.specs.Kept.{TestsEach, kept_all}
use Rattle.transfer.specs.Tested.{slot_at}
use Rattle.transfer.proofs.Keeping.{kept_all-append}

module _ {Test : Type 0} (passes : Test → Outcome → Bool) (joins : Test → Option ℕ) (kept : Test → Option Bound) where
  -- where those of the first list pass, those of the second decide
  pub both_tested : (old mid new : Test) (first second : Bool) (xs ys : List Outcome) → first ≡ true
      → TestsEach passes joins kept old mid first xs → TestsEach passes joins kept mid new second ys
      → TestsEach passes joins kept old new second (xs ++ ys)
  both_tested old mid new first second xs ys passed f s = (
    s.0 ∙ ap (λ p. list_all p ys) f.1 ∙ ap (λ b. b && list_all (passes old) ys) (sym passed ∙ f.0) ∙ sym (list_all-append (passes old) xs ys),
    s.1 ∙ f.1,
    s.2 ∙ f.2,
    λ yes. s.3 yes ∙ (λ i. kept_all (f.2 i) (f.3 passed i) ys) ∙ sym (kept_all-append (joins old) (kept old) xs ys),
  )

  pub first_failed : (old new : Test) (first : Bool) (xs ys : List Outcome) → first ≡ false
      → TestsEach passes joins kept old new first xs → TestsEach passes joins kept old new first (xs ++ ys)
  first_failed old new first xs ys failed f = (
    failed ∙ ap (λ b. b && list_all (passes old) ys) (sym failed ∙ f.0) ∙ sym (list_all-append (passes old) xs ys),
    f.1,
    f.2,
    λ yes. absurd cc,
  )

-- what the first of some slots leads to, and what the others do
pub first_slot : (leads : OpenSlot → List Outcome) (n : ℕ) (i : Interval) (slots : List SlotCode) (slot : SlotCode) → 1 ≤ length slots
    → slot ≡ get_or slots 0 slot
    → flat_map leads (slots_from n i (map slot_of slots))
    ≡ flat_map leads (slot_at n i (slot_of slot)) ++ flat_map leads (slots_from (n + 1) i (map slot_of (take (length slots - 1) (drop 1 slots))))
first_slot leads n i [] slot some is = absurd (omega arith)
first_slot leads n i (first ∷ rest) slot some is =
    flat_map-append leads (slot_at n i (slot_of first)) (slots_from (n + 1) i (map slot_of rest))
    ∙ ap (λ s. flat_map leads (slot_at n i (slot_of s)) ++ flat_map leads (slots_from (n + 1) i (map slot_of rest))) (sym is)
    ∙ ap (λ more. flat_map leads (slot_at n i (slot_of slot)) ++ flat_map leads (slots_from (n + 1) i (map slot_of more))) (sym (take_rest (first ∷ rest) 1))
