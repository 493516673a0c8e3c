-- A list is made one by one of another's things, if each can be made.
use Rattle.std.proofs.Common.{◌≡◌, ℕ, ◌+◌, ◌<◌, ◌≤◌, List, [], ◌∷◌, ◌++◌, length, get_or, map, drop, Option, Some, None, option_map, ap, sym, ◌∙◌, append-nil}
use Rattle.std.specs.Prelude.{option_and_then}
use Rattle.std.proofs.lemmas.List.{drop_all, drop_more, map-append}
use Rattle.task_reader.proofs.EachItem.{behind}

module _ {S : Type 0} {B : Type 0} {C : Type 0} (all : List S → Option (List B)) (one : S → Option B) (seen : C → B)
    (step : (x : S) (xs : List S) → all (x ∷ xs) ≡ option_and_then (λ b. option_map (λ rest. b ∷ rest) (all xs)) (one x)) where
  here : (xs : List S) (i : ℕ) (d : S) → i < length xs → all (drop i xs) ≡ option_and_then (λ b. option_map (λ rest. b ∷ rest) (all (drop (i + 1) xs))) (one (get_or xs i d))
  here xs i d within = ap all (drop_more xs i d within) ∙ step (get_or xs i d) (drop (i + 1) xs)

  -- one is made
  pub goes-on : (whole : Option (List B)) (xs : List S) (i : ℕ) (d : S) (before after : List C) (c : C) →
      whole ≡ option_map (λ rest. map seen before ++ rest) (all (drop i xs)) → i < length xs → one (get_or xs i d) ≡ Some (seen c) → after ≡ before ++ c ∷ [] →
      whole ≡ option_map (λ rest. map seen after ++ rest) (all (drop (i + 1) xs))
  goes-on whole xs i d before after c so_far within is grown =
      let left = all (drop (i + 1) xs) in
      so_far
      ∙ ap (option_map (λ rest. map seen before ++ rest)) (here xs i d within ∙ ap (option_and_then (λ b. option_map (λ rest. b ∷ rest) left)) is)
      ∙ behind (map seen before) (seen c) left
      ∙ ap (λ items. option_map (λ rest. items ++ rest) left) (sym (ap (map seen) grown ∙ map-append seen before (c ∷ [])))

  -- one can't be made
  pub stops : (whole : Option (List B)) (xs : List S) (i : ℕ) (d : S) (before : List C) →
      whole ≡ option_map (λ rest. map seen before ++ rest) (all (drop i xs)) → i < length xs → one (get_or xs i d) ≡ None → whole ≡ None
  stops whole xs i d before so_far within none =
      so_far ∙ ap (option_map (λ rest. map seen before ++ rest)) (here xs i d within ∙ ap (option_and_then (λ b. option_map (λ rest. b ∷ rest) (all (drop (i + 1) xs)))) none)

  -- none is left
  pub ends : (whole : Option (List B)) (xs : List S) (i : ℕ) (before : List C) →
      whole ≡ option_map (λ rest. map seen before ++ rest) (all (drop i xs)) → length xs ≤ i → all [] ≡ Some [] → whole ≡ Some (map seen before)
  ends whole xs i before so_far past none =
      so_far ∙ ap (λ ys. option_map (λ rest. map seen before ++ rest) (all ys)) (drop_all i xs past)
      ∙ ap (option_map (λ rest. map seen before ++ rest)) none ∙ ap Some (append-nil (map seen before))
