-- Slots from one on: the next of them, and those behind it.
use Rattle.std.proofs.Common.{◌≡◌, ◌<◌, ◌+◌, ℕ, Bool, List, ◌∷◌, length, map, drop, get_or, ap, sym, ◌∙◌}
use Rattle.std.specs.Prelude.{◌&&◌}
use Rattle.std.specs.List.{list_all}
use Rattle.std.proofs.lemmas.List.{at_drop_more}
use Rattle.std.proofs.lemmas.List.Folds.{list_all-append}
use Rattle.certificate.specs.Bounds.{Interval}
use Rattle.certificate.specs.Views.{slot_of}
use Rattle.certificate.specs.declared.bounds.Slot.{Slot as SlotCode}
use Rattle.rules.specs.Slots.{OpenSlot, slots_from, free_from}
use Rattle.transfer.specs.Tested.{slot_at}

-- a function of what is left of a list
next_of : {A B : Type 0} (f : List A → B) (xs : List A) (k : ℕ) (x : A) → k < length xs → x ≡ get_or xs k x → f (drop k xs) ≡ f (x ∷ drop (k + 1) xs)
next_of f xs k x inside is = at_drop_more f xs k x inside ∙ ap (λ y. f (y ∷ drop (k + 1) xs)) (sym is)

pub slot_passes : (passes : OpenSlot → Bool) (i : Interval) (slots : List SlotCode) (k : ℕ) (slot : SlotCode) → k < length slots → slot ≡ get_or slots k slot → (n : ℕ)
    → list_all passes (slots_from n i (map slot_of (drop k slots)))
    ≡ (list_all passes (slot_at n i (slot_of slot)) && list_all passes (slots_from (n + 1) i (map slot_of (drop (k + 1) slots))))
slot_passes passes i slots k slot inside is n =
    next_of (λ left. list_all passes (slots_from n i (map slot_of left))) slots k slot inside is
    ∙ list_all-append passes (slot_at n i (slot_of slot)) (slots_from (n + 1) i (map slot_of (drop (k + 1) slots)))

-- the lowest free number, where it is known what the next slot is
pub slot_free : (slots : List SlotCode) (k : ℕ) (slot kind : SlotCode) → k < length slots → slot ≡ get_or slots k slot → slot ≡ kind → (n : ℕ)
    → free_from 1 n (map slot_of (drop k slots)) ≡ free_from 1 n (slot_of kind ∷ map slot_of (drop (k + 1) slots))
slot_free slots k slot kind inside is known n =
    next_of (λ left. free_from 1 n (map slot_of left)) slots k slot inside is
    ∙ ap (λ s. free_from 1 n (slot_of s ∷ map slot_of (drop (k + 1) slots))) known
