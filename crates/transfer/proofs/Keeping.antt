-- What a test keeps of outcomes, one list after another, and of outcomes that repeat.
use Rattle.std.proofs.Common.{◌≡◌, ℕ, Bool, true, false, List, [], ◌∷◌, ◌++◌, refl, ap, sym, ◌∙◌}
use Rattle.std.specs.Prelude.{◌==◌, ◌&&◌, not, Option, Some, None, if◌then◌else◌}
use Rattle.std.specs.List.{list_all, flat_map}
use Rattle.certificate.specs.Bounds.{Bound}
use Rattle.certificate.proofs.JoinTwice.{bound-self, bound-twice}
use Rattle.rules.specs.Outcomes.{Outcome}
use Rattle.rules.specs.Carrying.{joined_bound, joined_with, joined_at}
use Rattle.transfer.specs.Kept.{kept_with, kept_all}

pub kept_all-append : (joins : Option ℕ) (before : Option Bound) (xs ys : List Outcome)
    → kept_all joins before (xs ++ ys) ≡ kept_all joins (kept_all joins before xs) ys
kept_all-append joins before [] ys = refl
kept_all-append joins before (o ∷ xs) ys = kept_all-append joins (kept_with joins before o) xs ys

-- ## Repeated outcomes
joined-twice : (before : Option Bound) (b : Bound) → joined_bound (joined_bound before b) b ≡ joined_bound before b
joined-twice None b = ap Some (bound-self b)
joined-twice (Some a) b = ap Some (bound-twice a b)

kept-twice : (joins : Option ℕ) (before : Option Bound) (o : Outcome)
    → kept_with joins (kept_with joins before o) o ≡ kept_with joins before o
kept-twice None before o = refl
kept-twice (Some point) before o = go (o.point == point)
  where
    go : (there : Bool) → (if there then joined_bound (if there then joined_bound before o.bound else before) o.bound else (if there then joined_bound before o.bound else before))
        ≡ (if there then joined_bound before o.bound else before)
    go true = joined-twice before o.bound
    go false = refl

-- outcomes that change nothing once they are joined
abbrev pub Settles : Option ℕ → List Outcome → Type 0
Settles joins outs = (before : Option Bound) → kept_all joins (kept_all joins before outs) outs ≡ kept_all joins before outs

pub one_settles : (joins : Option ℕ) (o : Outcome) → Settles joins (o ∷ [])
one_settles joins o before = kept-twice joins before o

module _ {A : Type 0} (joins : Option ℕ) (same : List Outcome) (settles : Settles joins same) (is : A → Bool) where
  abbrev repeated : List A → List Outcome
  repeated xs = flat_map (λ x. if is x then same else []) xs

  abbrev none_is : List A → Bool
  none_is xs = list_all (λ x. not (is x)) xs

  again : (before : Option Bound) (none : Bool)
      → (if none then kept_all joins before same else kept_all joins (kept_all joins before same) same) ≡ kept_all joins before same
  again before true = refl
  again before false = settles before

  step : (v none : Bool) (rest : List Outcome) (before : Option Bound)
      → ((start : Option Bound) → kept_all joins start rest ≡ (if none then start else kept_all joins start same))
      → kept_all joins before ((if v then same else []) ++ rest) ≡ (if not v && none then before else kept_all joins before same)
  step true none rest before later =
      kept_all-append joins before same rest ∙ later (kept_all joins before same) ∙ again before none
  step false none rest before later = later before

  -- where each element that is so has the same outcomes, they are joined once, if any is
  kept_once : (xs : List A) (before : Option Bound)
      → kept_all joins before (repeated xs) ≡ (if none_is xs then before else kept_all joins before same)
  kept_once [] before = refl
  kept_once (x ∷ xs) before = step (is x) (none_is xs) (repeated xs) before (kept_once xs)

  settled : (before kept : Option Bound) (outs : List Outcome) (none : Bool)
      → kept ≡ (if none then before else kept_all joins before same)
      → kept_all joins kept outs ≡ (if none then kept else kept_all joins kept same) → kept_all joins kept outs ≡ kept
  settled before kept outs true first second = second
  settled before kept outs false first second =
      second ∙ ap (λ k. kept_all joins k same) first ∙ settles before ∙ sym first

  pub repeated_settle : (xs : List A) → Settles joins (flat_map (λ x. if is x then same else []) xs)
  repeated_settle xs before =
      settled before (kept_all joins before (repeated xs)) (repeated xs) (none_is xs) (kept_once xs before)
      (kept_once xs (kept_all joins before (repeated xs)))

  pub none_kept : (xs : List A) (before : Option Bound) (none : Bool) → none ≡ list_all (λ x. not (is x)) xs → none ≡ true
      → before ≡ kept_all joins before (flat_map (λ x. if is x then same else []) xs)
  none_kept xs before none there so =
      sym (kept_once xs before ∙ ap (λ n. if n then before else kept_all joins before same) (sym there ∙ so))

  pub some_kept : (xs : List A) (before after : Option Bound) (none : Bool) → none ≡ list_all (λ x. not (is x)) xs → none ≡ false
      → after ≡ kept_all joins before same → after ≡ kept_all joins before (flat_map (λ x. if is x then same else []) xs)
  some_kept xs before after none there so is_kept =
      is_kept ∙ sym (kept_once xs before ∙ ap (λ n. if n then before else kept_all joins before same) (sym there ∙ so))

-- ## The join of one point's outcomes
pub kept_all-joined : (point : ℕ) (before : Option Bound) (outs : List Outcome) → kept_all (Some point) before outs ≡ joined_at point before outs
unfolding joined_at
kept_all-joined point before [] = refl
kept_all-joined point before (o ∷ outs) = kept_all-joined point (joined_with point before o) outs

all_pass : (outs : List Outcome) → list_all (λ o. true) outs ≡ true
all_pass [] = refl
all_pass (o ∷ outs) = all_pass outs

-- of successes, which all pass, and then of an error's outcome
pub kept-joined : (point : ℕ) (successes errors failed : List Outcome) (joins : Option ℕ) (first second : Option Bound) (passes : Bool)
    → passes ≡ list_all (λ o. true) successes → (passes ≡ true → first ≡ kept_all (Some point) None successes)
    → failed ≡ errors → joins ≡ Some point → second ≡ kept_all joins first failed
    → second ≡ joined_at point None (successes ++ errors)
kept-joined point successes errors failed joins first second passes all is_first same is_point is_second =
    is_second ∙ (λ k. kept_all (is_point k) (is_first (all ∙ all_pass successes) k) (same k))
    ∙ sym (kept_all-append (Some point) None successes errors) ∙ kept_all-joined point None (successes ++ errors)
