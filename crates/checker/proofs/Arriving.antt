-- What outcomes meet in the expansion of a certificate, as is asked of them.
use Rattle.std.proofs.Common.{◌≡◌, ℕ, ◌+◌, Bool, true, false, List, [], ◌∷◌, refl, ap, sym, ◌∙◌}
use Rattle.std.specs.Prelude.{◌&&◌, ◌==◌, Option, Some, None, is_some, if◌then◌else◌}
use Rattle.std.proofs.lemmas.Bool.{eqb-true}
use Rattle.std.specs.List.{list_all, slice_get}
use Rattle.certificate.specs.Bounds.{Bound, Certificate, bound_at}
use Rattle.certificate.specs.Growth.{IsCertificate}
use Rattle.checker.specs.ArrivalViews.{all_arrive, arrives_as}
use Rattle.checker.proofs.Made.{test_made}
use Rattle.checker.proofs.Standing.{or_none}
use Rattle.checker.specs.declared.arrivals.Arrival.{Arrival}
use Rattle.checker.specs.declared.arrivals.Arrival.TheVariants as arrivals
use Rattle.instruction_set.specs.Programs.{Instruction}
use Rattle.rules.specs.Expansions.{bound_met, bound_there, carried_to, code_named, expansion, or_carried}
use Rattle.rules.specs.Outcomes.{Outcome, error_outcomes, successes_in}
use Rattle.rules.specs.Rules.{all_there, all_within, within_if_there}
use Rattle.rules.proofs.expansions.Arriving.{errors_there, errors_within, successes_there, successes_within}
use Rattle.task.specs.Limits.{is_plan}
use Rattle.task.specs.Plans.{Plan}

swapped : (a b c d : Bool) → ((a && b) && (c && d)) ≡ ((a && c) && (b && d))
swapped true true c d = refl
swapped true false true d = refl
swapped true false false d = refl
swapped false b c d = refl

each_both : {A : Type 0} (p q : A → Bool) (xs : List A) → list_all (λ x. p x && q x) xs ≡ (list_all p xs && list_all q xs)
each_both p q [] = refl
each_both p q (x ∷ xs) = ap (λ rest. (p x && q x) && rest) (each_both p q xs) ∙ swapped (p x) (q x) (list_all p xs) (list_all q xs)

-- two tests at once, where each of them is the same
both_same : {A : Type 0} (p q r s : A → Bool) (xs ys : List A) → list_all p xs ≡ list_all r ys → list_all q xs ≡ list_all s ys
    → list_all (λ x. p x && q x) xs ≡ list_all (λ y. r y && s y) ys
both_same p q r s xs ys first second = each_both p q xs ∙ (λ k. first k && second k) ∙ sym (each_both r s ys)

module _ (plan : Plan) (c : Certificate) (valid : is_plan plan ≡ true) (merely : ∥ IsCertificate c ∥₁) (name : List ℕ) (point : ℕ) (i : Instruction)
    (there : Option Bound) (here : slice_get (code_named plan.programs name) point ≡ Some i) (on : there ≡ bound_there plan c name (point + 1)) (b : Bound) where
  abbrev carried : Option Bound
  carried = carried_to plan c name (point + 1)

  -- what an outcome meets where the next point's bound is at hand, and as the definition has it
  abbrev met : Outcome → Option Bound
  met o = if o.point == point + 1 then there else bound_at c name o.point

  is_met : (o : Outcome) → met o ≡ bound_met c name (point + 1) carried o.point
  is_met o = go (o.point == point + 1) refl
    where
      go : (next : Bool) → (o.point == point + 1) ≡ next
          → (if next then there else bound_at c name o.point) ≡ or_carried (bound_at c name o.point) (if next then carried else None)
      go true same = on ∙ ap (λ n. or_carried (bound_at c name n) carried) (sym (eqb-true o.point (point + 1) same))
      go false other = sym (or_none (bound_at c name o.point))

  abbrev given : Outcome → Option Bound
  given o = bound_at (expansion plan c) name o.point

  -- all of some outcomes as they meet what is carried, where all of others meet what the expansion gives
  same_as : (outs others : List Outcome)
      → list_all (λ (o : Outcome). within_if_there o.bound (bound_met c name (point + 1) carried o.point)) outs ≡ all_within (expansion plan c) name others
      → list_all (λ (o : Outcome). is_some (bound_met c name (point + 1) carried o.point)) outs ≡ all_there (expansion plan c) name others
      → (arrival : Arrival) → list_all (λ (o : Outcome). arrives_as arrival o.bound (met o)) outs ≡ all_arrive arrival (expansion plan c) name others
  same_as outs others within found arrival = (λ k. list_all (λ (o : Outcome). arrives_as arrival o.bound (is_met o k)) outs) ∙ by arrival
    where
      by : (arrival : Arrival) → list_all (λ (o : Outcome). arrives_as arrival o.bound (bound_met c name (point + 1) carried o.point)) outs
          ≡ all_arrive arrival (expansion plan c) name others
      by arrivals.Within = within
      by arrivals.There = found
      by arrivals.WithinThere =
          both_same (λ (o : Outcome). is_some (bound_met c name (point + 1) carried o.point))
          (λ (o : Outcome). within_if_there o.bound (bound_met c name (point + 1) carried o.point)) (λ (o : Outcome). is_some (given o))
          (λ (o : Outcome). within_if_there o.bound (given o)) outs others found within

  pub successes_as : (arrival : Arrival) → list_all (λ (o : Outcome). arrives_as arrival o.bound (met o)) (successes_in plan c name point b i)
      ≡ all_arrive arrival (expansion plan c) name (successes_in plan (expansion plan c) name point b i)
  successes_as arrival = test_made c _ _ merely
      (λ made. same_as (successes_in plan c name point b i) (successes_in plan (expansion plan c) name point b i)
      (successes_within plan c valid made name point i carried here refl b) (successes_there plan c valid made name point i carried here refl b) arrival)

  pub errors_as : (arrival : Arrival) → list_all (λ (o : Outcome). arrives_as arrival o.bound (met o)) (error_outcomes b i)
      ≡ all_arrive arrival (expansion plan c) name (error_outcomes b i)
  errors_as arrival = test_made c _ _ merely
      (λ made. same_as (error_outcomes b i) (error_outcomes b i) (errors_within plan c valid made name point i carried here refl b)
      (errors_there plan c valid made name point i carried here refl b) arrival)
