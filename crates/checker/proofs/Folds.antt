-- What `all`, `any` and `find` say of a slice that is seen element by element.
use Rattle.std.proofs.Common.{◌≡◌, List, [], ◌∷◌, ap, refl, sym, true, false, ◌∙◌}
use Rattle.std.specs.Prelude.{◌||◌, Bool, None, Option, Some, cond, map, option_map}
use Rattle.std.specs.Bool.{⊤}
use Rattle.std.specs.Fn.{Called, CalledAt}
use Rattle.std.specs.Iterator.{YieldsThen}
use Rattle.std.specs.List.{FoldsTo, find, list_all, list_any}
use Rattle.std.specs.Option.{MatchOption}
use Rattle.std.proofs.lemmas.Iterator.{YieldsList}
use Rattle.std.proofs.lemmas.Iterator.Search.{all_from_yields_List, any_from_yields_List, find_from_yields_List}
use Rattle.std.proofs.lemmas.List.Folds.{list_all-map}
use denote.Param.Members.{Mut}
use denote.Ref.{Bor}

list_any-map : {X : Type 0} (p : X → Bool) {Y : Type 0} (h : Y → X) (ys : List Y) → list_any p (map h ys) ≡ list_any (λ y. p (h y)) ys
list_any-map p h [] = refl
list_any-map p h (y ∷ ys) = ap (λ b. p (h y) || b) (list_any-map p h ys)

module _ {S A F X Y : Type 0} {steps : S → Option A → S → Type 0} {v : A → Y} {g : Mut F (A × Unit {0}) Bool} {s : S} (p : X → Bool) (h : Y → X)
    (ys : List Y) (u : S) (f : F) (r : Bool) where
  pub all_seen : (xs : List A) × (o : Option A) × (j : F) × YieldsThen steps s xs o u × FoldsTo (λ i x q. Called g i (x, tt) true q) f xs j
      × MatchOption o (r ≡ true) (λ x. (r ≡ false) × ((i : F) × Called g j (x, tt) false i)) → YieldsList steps v s ys
      → ((x : A) (b : Bool) (q : F) → Called g f (x, tt) b q → (q ≡ f) × (b ≡ p (h (v x)))) → r ≡ list_all p (map h ys)
  all_seen ran yields calls = all_from_yields_List (λ y. p (h y)) _ _ _ ran yields calls ∙ sym (list_all-map p h ys)

  pub any_seen : (xs : List A) × (o : Option A) × (j : F) × YieldsThen steps s xs o u × FoldsTo (λ i x q. Called g i (x, tt) false q) f xs j
      × MatchOption o (r ≡ false) (λ x. (r ≡ true) × ((i : F) × Called g j (x, tt) true i)) → YieldsList steps v s ys
      → ((x : A) (b : Bool) (q : F) → Called g f (x, tt) b q → (q ≡ f) × (b ≡ p (h (v x)))) → r ≡ list_any p (map h ys)
  any_seen ran yields calls = any_from_yields_List (λ y. p (h y)) _ _ _ ran yields calls ∙ sym (list_any-map p h ys)

find-map : {X : Type 0} (p : X → Bool) {Y : Type 0} (h : Y → X) (ys : List Y) → option_map h (find (λ y. p (h y)) ys) ≡ find p (map h ys)
find-map p h [] = refl
find-map p h (y ∷ ys) = go (p (h y)) (find-map p h ys)
  where
    go : (here : Bool) → option_map h (find (λ y. p (h y)) ys) ≡ find p (map h ys)
        → option_map h (cond here (Some y) (find (λ y. p (h y)) ys)) ≡ cond here (Some (h y)) (find p (map h ys))
    go true rest = refl
    go false rest = rest

twice : {A X Y : Type 0} (v : A → Y) (h : Y → X) (o : Option A) → option_map (λ x. h (v x)) o ≡ option_map h (option_map v o)
twice v h None = refl
twice v h (Some x) = refl

module _ {S A F X Y : Type 0} {steps : S → Option A → S → Type 0} {v : A → Y} {g : Mut F (Bor A × Unit {0}) Bool} {s : S} (p : X → Bool) (h : Y → X)
    (ys : List Y) (u : S) (f : F) (r : Option A) where
  pub find_seen : (xs : List A) × (j : F) × YieldsThen steps s xs r u × FoldsTo (λ i x q. CalledAt g i x false q) f xs j
      × MatchOption r ⊤ (λ x. (i : F) × CalledAt g j x true i) → YieldsList steps v s ys
      → ((x : A) (b : Bool) (q : F) → CalledAt g f x b q → (q ≡ f) × (b ≡ p (h (v x)))) → option_map (λ x. h (v x)) r ≡ find p (map h ys)
  find_seen ran yields calls = twice v h r ∙ ap (option_map h) (find_from_yields_List (λ y. p (h y)) _ _ _ ran yields calls) ∙ find-map p h ys
