-- What the list of findings holds: each rule that a point breaks, and nothing else.
use Rattle.std.proofs.Common.{◌≡◌, ◌<◌, ◌≤◌, ◌⊎◌, inl, inr, ℕ, zero, suc, Bool, true, false, List, [], ◌∷◌, ◌++◌, length, Some, None, refl, ap, sym, ◌∙◌, subst, cond, arith}
use Rattle.std.specs.Prelude.{◌↔◌, Option}
use Rattle.std.specs.List.{Contains, slice_get, slice_index_or}
use Rattle.std.proofs.lemmas.List.Elements.{Contains-append_left, Contains-append_right, Contains-append_cases}
use Rattle.std.proofs.lemmas.Option.{slice_get_past}
use Rattle.certificate.specs.Bounds.{Bound, Certificate, bound_at}
use Rattle.kernel.proofs.Fresh.{lt_or_le}
use Rattle.instruction_set.specs.Programs.{Instruction}
use Rattle.task.specs.Plans.{Plan, code_in, program_name, programs_of_plan}
use Rattle.rules.specs.Points.{instruction_at}
use Rattle.rules.specs.Rules.{Test, least_broken}
use Rattle.rules.specs.Verdicts.{MeetsRules, found_at, found_with}
use Rattle.checker.specs.Findings.{BrokenRule, IsBroken, findings, findings_before, findings_in, findings_of_programs, tests_there, tests_with}
use Rattle.checker.proofs.Apart.{nothing_there}

-- ## Lists
nothing_in : (f : BrokenRule) → Contains [] f → {A : Type 0} → A
nothing_in f h = let below = h.1 in absurd (omega (arith, below))

cons_cases : (x : BrokenRule) (xs : List BrokenRule) (f : BrokenRule) (i : ℕ) → i < suc (length xs) → slice_index_or (x ∷ xs) i f ≡ f → (x ≡ f) ⊎ Contains xs f
cons_cases x xs f zero below is = inl is
cons_cases x xs f (suc i) below is = inr (i, omega (arith, below), is)

left_nil : (xs ys : List BrokenRule) → xs ++ ys ≡ [] → xs ≡ []
left_nil [] ys none = refl
left_nil (x ∷ xs) ys none = absurd cc

right_nil : (xs ys : List BrokenRule) → xs ++ ys ≡ [] → ys ≡ []
right_nil [] ys none = none
right_nil (x ∷ xs) ys none = absurd cc

both_nil : (xs ys : List BrokenRule) → xs ≡ [] → ys ≡ [] → xs ++ ys ≡ []
both_nil xs ys left right = (λ k. left k ++ right k)

-- ## A point
module _ (program point : ℕ) where
  abbrev found : Test → BrokenRule
  found t = record { program = program; point = point; rule = t.rule }

  in_place : (ts : List Test) (f : BrokenRule) → Contains (findings_in program point ts) f → (f.program ≡ program) × (f.point ≡ point)
  in_place [] f h = nothing_in f h
  in_place (t ∷ ts) f h = go t.kept h (in_place ts f)
    where
      go : (kept : Bool) → Contains (cond kept (findings_in program point ts) (found t ∷ findings_in program point ts)) f
          → (Contains (findings_in program point ts) f → (f.program ≡ program) × (f.point ≡ point)) → (f.program ≡ program) × (f.point ≡ point)
      go true h rest = rest h
      go false h rest = elim (cons_cases (found t) (findings_in program point ts) f h.0 h.1 h.2) [
        | inl same ↦ (sym (ap (λ g. g.program) same), sym (ap (λ g. g.point) same))
        | inr later ↦ rest later
      ]

  none_broken : (ts : List Test) → findings_in program point ts ≡ [] → least_broken ts ≡ None
  none_broken [] none = refl
  none_broken (t ∷ ts) none = go t.kept none (none_broken ts)
    where
      go : (kept : Bool) → cond kept (findings_in program point ts) (found t ∷ findings_in program point ts) ≡ []
          → (findings_in program point ts ≡ [] → least_broken ts ≡ None) → cond kept (least_broken ts) (Some t.rule) ≡ None
      go true none rest = rest none
      go false none rest = absurd cc

  none_found : (ts : List Test) → least_broken ts ≡ None → findings_in program point ts ≡ []
  none_found [] none = refl
  none_found (t ∷ ts) none = go t.kept none (none_found ts)
    where
      go : (kept : Bool) → cond kept (least_broken ts) (Some t.rule) ≡ None
          → (least_broken ts ≡ None → findings_in program point ts ≡ []) → cond kept (findings_in program point ts) (found t ∷ findings_in program point ts) ≡ []
      go true none rest = rest none
      go false none rest = absurd cc

module _ (plan : Plan) (c : Certificate) where
  least_with : (program point : ℕ) (i : Option Instruction) (b : Option Bound) → found_with plan c program point i b ≡ least_broken (tests_with plan c program point i b)
  unfolding found_with tests_with
  least_with program point None b = refl
  least_with program point (Some i) None = refl
  least_with program point (Some i) (Some b) = refl

  least_at : (program point : ℕ) → found_at plan c program point ≡ least_broken (tests_there plan c program point)
  unfolding found_at tests_there
  least_at program point = least_with program point (instruction_at plan program point) (bound_at c (program_name plan program) point)

  -- ## A program
  before_none : (program count point : ℕ) → findings_before plan c program count ≡ [] → point < count
      → findings_in program point (tests_there plan c program point) ≡ []
  unfolding findings_before
  before_none program zero point none below = absurd (omega (arith, below))
  before_none program (suc count) point none below = elim (lt_or_le point count) [
    | inl less ↦ before_none program count point (left_nil (findings_before plan c program count) _ none) less
    | inr more ↦ let same : count ≡ point = omega (arith, below, more) in
        subst (λ k. findings_in program k (tests_there plan c program k) ≡ []) same (right_nil (findings_before plan c program count) _ none)
  ]

  before_all : (program count : ℕ) → ((point : ℕ) → findings_in program point (tests_there plan c program point) ≡ []) → findings_before plan c program count ≡ []
  unfolding findings_before
  before_all program zero none = refl
  before_all program (suc count) none = both_nil (findings_before plan c program count) _ (before_all program count none) (none count)

  before_holds : (program count point : ℕ) (f : BrokenRule) → point < count → Contains (findings_in program point (tests_there plan c program point)) f
      → Contains (findings_before plan c program count) f
  unfolding findings_before
  before_holds program zero point f below h = absurd (omega (arith, below))
  before_holds program (suc count) point f below h = elim (lt_or_le point count) [
    | inl less ↦ Contains-append_left (findings_before plan c program count) _ f (before_holds program count point f less h)
    | inr more ↦ let same : point ≡ count = omega (arith, below, more) in
        Contains-append_right (findings_before plan c program count) _ f (subst (λ k. Contains (findings_in program k (tests_there plan c program k)) f) same h)
  ]

  before_broken : (program count : ℕ) (f : BrokenRule) → Contains (findings_before plan c program count) f → IsBroken plan c f
  unfolding findings_before
  before_broken program zero f h = nothing_in f h
  before_broken program (suc count) f h =
      elim (Contains-append_cases (findings_before plan c program count) (findings_in program count (tests_there plan c program count)) f h) [
        | inl earlier ↦ before_broken program count f earlier
        | inr here ↦ let place = in_place program count (tests_there plan c program count) f here in
            subst (λ p. Contains (findings_in p f.point (tests_there plan c p f.point)) f) (sym place.0)
            (subst (λ k. Contains (findings_in program k (tests_there plan c program k)) f) (sym place.1) here)
      ]

  -- ## All programs
  programs_holds : (count program : ℕ) (f : BrokenRule) → program < count → Contains (findings_before plan c program (length (programs_of_plan plan program))) f
      → Contains (findings_of_programs plan c count) f
  unfolding findings_of_programs
  programs_holds zero program f below h = absurd (omega (arith, below))
  programs_holds (suc count) program f below h = elim (lt_or_le program count) [
    | inl less ↦ Contains-append_left (findings_of_programs plan c count) _ f (programs_holds count program f less h)
    | inr more ↦ let same : program ≡ count = omega (arith, below, more) in
        Contains-append_right (findings_of_programs plan c count) _ f (subst (λ p. Contains (findings_before plan c p (length (programs_of_plan plan p))) f) same h)
  ]

  programs_broken : (count : ℕ) (f : BrokenRule) → Contains (findings_of_programs plan c count) f → IsBroken plan c f
  unfolding findings_of_programs
  programs_broken zero f h = nothing_in f h
  programs_broken (suc count) f h =
      elim (Contains-append_cases (findings_of_programs plan c count) (findings_before plan c count (length (programs_of_plan plan count))) f h) [
        | inl earlier ↦ programs_broken count f earlier
        | inr here ↦ before_broken count (length (programs_of_plan plan count)) f here
      ]

  programs_none : (count program : ℕ) → findings_of_programs plan c count ≡ [] → program < count → findings_before plan c program (length (programs_of_plan plan program)) ≡ []
  unfolding findings_of_programs
  programs_none zero program none below = absurd (omega (arith, below))
  programs_none (suc count) program none below = elim (lt_or_le program count) [
    | inl less ↦ programs_none count program (left_nil (findings_of_programs plan c count) _ none) less
    | inr more ↦ let same : count ≡ program = omega (arith, below, more) in
        subst (λ p. findings_before plan c p (length (programs_of_plan plan p)) ≡ []) same (right_nil (findings_of_programs plan c count) _ none)
  ]

  programs_all : (count : ℕ) → ((program point : ℕ) → findings_in program point (tests_there plan c program point) ≡ []) → findings_of_programs plan c count ≡ []
  unfolding findings_of_programs
  programs_all zero none = refl
  programs_all (suc count) none = both_nil (findings_of_programs plan c count) _ (programs_all count none) (before_all count _ (none count))

  -- past the ends
  past_points : (program point : ℕ) → length (programs_of_plan plan program) ≤ point → tests_there plan c program point ≡ []
  past_points program point past = nothing_there plan c program point (slice_get_past (programs_of_plan plan program) point past)

  past_programs : (program point : ℕ) → length plan.programs ≤ program → tests_there plan c program point ≡ []
  past_programs program point past = nothing_there plan c program point (ap (λ p. slice_get (code_in p) point) (slice_get_past plan.programs program past))

  found_or_past : (program point : ℕ) → findings plan c ≡ [] → findings_in program point (tests_there plan c program point) ≡ []
  found_or_past program point none = elim (lt_or_le program (length plan.programs)) [
    | inr past ↦ ap (findings_in program point) (past_programs program point past)
    | inl there ↦ elim (lt_or_le point (length (programs_of_plan plan program))) [
      | inr past ↦ ap (findings_in program point) (past_points program point past)
      | inl here ↦ before_none program (length (programs_of_plan plan program)) point (programs_none (length plan.programs) program none there) here
    ]
  ]

  holds_or_past : (f : BrokenRule) → IsBroken plan c f → Contains (findings plan c) f
  holds_or_past f broken = elim (lt_or_le f.program (length plan.programs)) [
    | inr past ↦ nothing_in f (subst (λ ts. Contains (findings_in f.program f.point ts) f) (past_programs f.program f.point past) broken)
    | inl there ↦ elim (lt_or_le f.point (length (programs_of_plan plan f.program))) [
      | inr past ↦ nothing_in f (subst (λ ts. Contains (findings_in f.program f.point ts) f) (past_points f.program f.point past) broken)
      | inl here ↦ programs_holds (length plan.programs) f.program f there (before_holds f.program (length (programs_of_plan plan f.program)) f.point f here broken)
    ]
  ]

  pub are_broken : (f : BrokenRule) → Contains (findings plan c) f ↔ IsBroken plan c f
  are_broken f = (programs_broken (length plan.programs) f, holds_or_past f)

  pub none_meets : (findings plan c ≡ []) ↔ MeetsRules plan c
  none_meets = (
    (λ none program point. least_at program point ∙ none_broken program point (tests_there plan c program point) (found_or_past program point none)),
    (λ meets. programs_all (length plan.programs)
        (λ program point. none_found program point (tests_there plan c program point) (sym (least_at program point) ∙ meets program point))),
  )
