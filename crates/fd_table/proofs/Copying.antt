-- Copies of what is open show the same.
use Rattle.std.proofs.Common.{◌≡◌, List, [], ◌∷◌, map, refl, ap}
use Rattle.std.specs.Prelude.{Option, Some, None}
use Rattle.std.specs.List.{AllZip}
use Rattle.std.specs.Option.{option_map}
use Rattle.slab.specs.Slab.{IsSlotClone}

module _ {A B : Type 0} (C : A → A → Type 0) (g : A → B) (same : (x y : A) → C x y → g y ≡ g x) where
  slot_same : (x y : Option A) → IsSlotClone C x y → option_map g y ≡ option_map g x
  slot_same None y copy = ap (option_map g) copy
  slot_same (Some x) None copy = absurd copy
  slot_same (Some x) (Some y) copy = ap Some (same x y copy)

  -- the slots of a slab's clone, where a clone shows the same
  pub slots_same : (xs ys : List (Option A)) → AllZip (IsSlotClone C) xs ys → map (option_map g) ys ≡ map (option_map g) xs
  slots_same [] [] all = refl
  slots_same [] (y ∷ ys) all = absurd all
  slots_same (x ∷ xs) [] all = absurd all
  slots_same (x ∷ xs) (y ∷ ys) all = rw (slot_same x y all.0, slots_same xs ys all.1) refl
