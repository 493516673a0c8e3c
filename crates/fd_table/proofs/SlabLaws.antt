-- A slab is changed at a number: what its slots are, and what is seen of them.
use Rattle.std.proofs.Common.{◌≡◌, ℕ, zero, suc, ◌<◌, List, [], ◌∷◌, length, map, refl, ap, ◌∙◌, sym, subst, arith, get_or-set_same, get_or-set_other}
use Rattle.std.specs.Prelude.{Option, Some, None, slice_set, true, false, cond}
use Rattle.std.specs.Option.{option_map, IsSome}
use Rattle.slab.specs.Slab.{Slab, Updates}
use Rattle.fd_table.specs.Kept.{Pair, item_at}
use Rattle.fd_table.specs.Holders.{is_idle}
use Rattle.fd_table.specs.Changes.{Changed, unless_idle}

pub slot_map : {A B : Type 0} (g : A → B) (xs : List (Option A)) (n : ℕ) → item_at (map (option_map g) xs) n ≡ option_map g (item_at xs n)
slot_map g [] n = refl
slot_map g (x ∷ xs) zero = refl
slot_map g (x ∷ xs) (suc n) = slot_map g xs n

slot_below : {A : Type 0} (xs : List (Option A)) (n : ℕ) (a : A) → item_at xs n ≡ Some a → n < length xs
slot_below [] n a there = absurd cc
slot_below (x ∷ xs) zero a there = omega arith
slot_below (x ∷ xs) (suc n) a there = omega (arith, slot_below xs n a there)

-- a value is written over another
pub slots_set : {A B : Type 0} (g : A → B) (xs : List (Option A)) (n : ℕ) (a x : A) (F : Option B → Option B) → item_at xs n ≡ Some a →
    F (Some (g a)) ≡ Some (g x) → Changed (map (option_map g) xs) (map (option_map g) (slice_set xs n (Some x))) n
    (F (item_at (map (option_map g) xs) n))
slots_set g xs n a x F there is = record {
  changed =
      slot_map g (slice_set xs n (Some x)) n
      ∙ ap (option_map g) (get_or-set_same xs n (Some x) None (slot_below xs n a there))
      ∙ sym is
      ∙ ap F (sym (slot_map g xs n ∙ ap (option_map g) there));
  others = λ m other.
      slot_map g (slice_set xs n (Some x)) m
      ∙ ap (option_map g) (get_or-set_other xs n m (Some x) None other)
      ∙ sym (slot_map g xs m);
}

-- a slab has another value at a key, or none
pub slots_update : {A B : Type 0} (g : A → B) (s t : Slab A) (n : ℕ) (v : Option A) (w : Option B) → Updates s t n v → option_map g v ≡ w →
    Changed (map (option_map g) s.slots) (map (option_map g) t.slots) n w
slots_update g s t n v w updates is = record {
  changed = slot_map g t.slots n ∙ ap (option_map g) updates.changed ∙ is;
  others = λ m other. slot_map g t.slots m ∙ ap (option_map g) (updates.others m other) ∙ sym (slot_map g s.slots m);
}

-- where a write changes nothing that is seen
pub slots_same : {A B : Type 0} (g : A → B) (xs : List (Option A)) (n : ℕ) (a x : A) → item_at xs n ≡ Some a → g x ≡ g a → map (option_map g) (slice_set xs n (Some x)) ≡ map (option_map g) xs
slots_same g [] n a x there same = absurd cc
slots_same g (y ∷ xs) zero a x there same = ap (λ o. o ∷ map (option_map g) xs) (ap Some same ∙ ap (option_map g) (sym there))
slots_same g (y ∷ xs) (suc n) a x there same = ap (λ l. option_map g y ∷ l) (slots_same g xs n a x there same)

pub some_map : {A B : Type 0} (g : A → B) (xs : List (Option A)) (n : ℕ) (a : A) → item_at xs n ≡ Some a → item_at (map (option_map g) xs) n ≡ Some (g a)
some_map g xs n a there = slot_map g xs n ∙ ap (option_map g) there

pub none_map : {A B : Type 0} (g : A → B) (xs : List (Option A)) (n : ℕ) → item_at xs n ≡ None → item_at (map (option_map g) xs) n ≡ None
none_map g xs n there = slot_map g xs n ∙ ap (option_map g) there

pub is_some_map : {A B : Type 0} (g : A → B) (xs : List (Option A)) (n : ℕ) → IsSome (item_at (map (option_map g) xs) n) → IsSome (item_at xs n)
is_some_map g xs n there = go (item_at xs n) (subst (λ (o : Option _). IsSome o) (slot_map g xs n) there)
  where
    go : (o : Option _) → IsSome (option_map g o) → IsSome o
    go None there = absurd cc
    go (Some a) there = refl

pub changed_twice : {A : Type 0} (xs ys zs : List (Option A)) (n : ℕ) (v w : Option A) → Changed xs ys n v → Changed ys zs n w → Changed xs zs n w
changed_twice xs ys zs n v w first second = record {
  changed = second.changed;
  others = λ m other. second.others m other ∙ first.others m other;
}

pub idle_gone : (q : Pair) → is_idle q ≡ true → unless_idle q ≡ None
idle_gone q is = ap (λ b. cond b None (Some q)) is

pub idle_stays : (q : Pair) → is_idle q ≡ false → unless_idle q ≡ Some q
idle_stays q is = ap (λ b. cond b None (Some q)) is
