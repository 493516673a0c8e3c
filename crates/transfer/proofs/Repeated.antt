-- A test of outcomes that repeat.
use Rattle.std.proofs.Common.{◌≡◌, Bool, true, false, List, [], ◌∷◌, ◌++◌, refl, ap, sym, ◌∙◌}
use Rattle.std.specs.Prelude.{◌&&◌, ◌||◌, not, if◌then◌else◌}
use Rattle.std.specs.List.{list_all, flat_map}
use Rattle.std.proofs.lemmas.List.Folds.{list_all-append}

absorbs : (a n : Bool) → (a && (n || a)) ≡ a
absorbs true true = refl
absorbs true false = refl
absorbs false n = refl

module _ {A B : Type 0} (passes : B → Bool) (same : List B) (is : A → Bool) where
  step : (v n : Bool) (rest : List B) → list_all passes rest ≡ (n || list_all passes same)
      → list_all passes ((if v then same else []) ++ rest) ≡ ((not v && n) || list_all passes same)
  step true n rest later =
      list_all-append passes same rest ∙ ap (λ z. list_all passes same && z) later ∙ absorbs (list_all passes same) n
  step false n rest later = later

  -- where each element that is so has the same outcomes, they are asked about once, if any is
  pub asked_once : (xs : List A) → list_all passes (flat_map (λ x. if is x then same else []) xs) ≡ (list_all (λ x. not (is x)) xs || list_all passes same)
  asked_once [] = refl
  asked_once (x ∷ xs) = step (is x) (list_all (λ y. not (is y)) xs) (flat_map (λ y. if is y then same else []) xs) (asked_once xs)

pub none_passes : {A B : Type 0} (passes : B → Bool) (same : List B) (is : A → Bool) (xs : List A) (none : Bool) → none ≡ list_all (λ x. not (is x)) xs → none ≡ true
    → none ≡ list_all passes (flat_map (λ x. if is x then same else []) xs)
none_passes passes same is xs none there so =
    so ∙ ap (λ z. z || list_all passes same) (sym so ∙ there) ∙ sym (asked_once passes same is xs)

pub some_passes : {A B : Type 0} (passes : B → Bool) (same : List B) (is : A → Bool) (xs : List A) (none answer : Bool) → none ≡ list_all (λ x. not (is x)) xs → none ≡ false
    → answer ≡ list_all passes same → answer ≡ list_all passes (flat_map (λ x. if is x then same else []) xs)
some_passes passes same is xs none answer there so is_asked =
    is_asked ∙ ap (λ z. z || list_all passes same) (sym so ∙ there) ∙ sym (asked_once passes same is xs)
