-- Going through all points in order finds what the propositions say.
use Rattle.std.proofs.Common.{◌≡◌, ℕ, suc, ◌+◌, ◌-◌, ◌<◌, ◌≤◌, ◌⊎◌, inl, inr, arith, List, [], ◌∷◌, length, ap, sym, ◌∙◌, subst, refl}
use Rattle.std.specs.Prelude.{Option, Some, None}
use Rattle.std.specs.List.{slice_get}
use Rattle.std.proofs.lemmas.Option.{slice_get_past}
use Rattle.kernel.proofs.Fresh.{lt_or_le}
use Rattle.certificate.specs.Bounds.{Certificate, bound_at}
use Rattle.instruction_set.specs.Programs.{Instruction}
use Rattle.task.specs.Plans.{NamedProgram, Plan, code_in, program_name}
use Rattle.rules.specs.Points.{instruction_at}
use Rattle.rules.specs.Verdicts.{found_with, found_at, found_or, first_of_points, first_of_programs, first_found, IsFirst, FirstIsFound}

module _ (plan : Plan) (certificate : Certificate) where
  -- nothing is found at the points of a program below one, and nothing in the programs below one
  abbrev IsNone : ℕ → ℕ → Type 0
  IsNone program point = found_at plan certificate program point ≡ None

  abbrev Before : ℕ → Type 0
  Before program = (p j : ℕ) → p < program → IsNone p j

  abbrev Below : ℕ → ℕ → Type 0
  Below program point = (j : ℕ) → j < point → IsNone program j

  no_instruction : (program point : ℕ) → instruction_at plan program point ≡ None → IsNone program point
  unfolding found_at found_with
  no_instruction program point none =
      ap (λ o. found_with plan certificate program point o (bound_at certificate (program_name plan program) point)) none

  below_next : (program point : ℕ) → Below program point → IsNone program point → Below program (point + 1)
  below_next program point below here = λ j low. at j low (lt_or_le j point)
    where
      at : (j : ℕ) → j < point + 1 → (j < point) ⊎ (point ≤ j) → IsNone program j
      at j low (inl less) = below j less
      at j low (inr more) =
          let same : point ≡ j = omega (arith, low, more) in
          subst (λ n. IsNone program n) same here

  before_next : (program : ℕ) → Before program → ((j : ℕ) → IsNone program j) → Before (program + 1)
  before_next program before here = λ p j low. at p j low (lt_or_le p program)
    where
      at : (p j : ℕ) → p < program + 1 → (p < program) ⊎ (program ≤ p) → IsNone p j
      at p j low (inl less) = before p j less
      at p j low (inr more) =
          let same : program ≡ p = omega (arith, low, more) in
          subst (λ n. IsNone n j) same (here j)

  points : (program point : ℕ) (code : List Instruction) (rest : Option (ℕ × ℕ × ℕ)) → Before program → Below program point
      → ((j : ℕ) → point + length code ≤ j → IsNone program j)
      → (((j : ℕ) → IsNone program j) → IsFirst plan certificate rest)
      → IsFirst plan certificate (first_of_points plan certificate program point code rest)
  points program point [] rest before below past next = next (λ j. at j (lt_or_le j point))
    where
      at : (j : ℕ) → (j < point) ⊎ (point ≤ j) → IsNone program j
      at j (inl less) = below j less
      at j (inr more) = past j (omega (arith, more))
  points program point (i ∷ code) rest before below past next =
      go (found_at plan certificate program point) refl (λ here.
      points program (point + 1) code rest before (below_next program point below here) (λ j far. past j (omega (arith, far))) next)
    where
      go : (found : Option ℕ) → found_at plan certificate program point ≡ found
          → (IsNone program point → IsFirst plan certificate (first_of_points plan certificate program (point + 1) code rest))
          → IsFirst plan certificate (found_or program point found (first_of_points plan certificate program (point + 1) code rest))
      go None here more = more here
      go (Some rule) here more = record { found = here; points = below; programs = before }

  programs : (program : ℕ) (items : List NamedProgram) → Before program
      → ((n : ℕ) → slice_get plan.programs (program + n) ≡ slice_get items n)
      → IsFirst plan certificate (first_of_programs plan certificate program items)
  programs program [] before here = λ p j. at p j (lt_or_le p program)
    where
      at : (p j : ℕ) → (p < program) ⊎ (program ≤ p) → IsNone p j
      at p j (inl less) = before p j less
      at p j (inr more) =
          let same : program + (p - program) ≡ p = omega (arith, more) in
          let none : slice_get plan.programs p ≡ None = subst (λ n. slice_get plan.programs n ≡ None) same (here (p - program)) in
          no_instruction p j (ap (λ q. slice_get (code_in q) j) none)
  programs program (p ∷ items) before here =
      points program 0 p.code (first_of_programs plan certificate (program + 1) items) before (λ j low. let none : ⊥ = omega (arith, low) in absurd none) past
      (λ clean. programs (program + 1) items (before_next program before clean) shifted)
    where
      there : slice_get plan.programs program ≡ Some p
      there =
          let same : program + 0 ≡ program = omega arith in
          subst (λ n. slice_get plan.programs n ≡ Some p) same (here 0)

      past : (j : ℕ) → 0 + length p.code ≤ j → IsNone program j
      past j far = no_instruction program j (ap (λ q. slice_get (code_in q) j) there ∙ slice_get_past p.code j (omega (arith, far)))

      shifted : (n : ℕ) → slice_get plan.programs (program + 1 + n) ≡ slice_get items n
      shifted n =
          let same : program + suc n ≡ program + 1 + n = omega arith in
          subst (λ m. slice_get plan.programs m ≡ slice_get items n) same (here (suc n))

pub first_is_found : FirstIsFound
unfolding first_found
first_is_found plan certificate = programs plan certificate 0 plan.programs (λ p j low. let none : ⊥ = omega (arith, low) in absurd none) (λ n.
    let same : n ≡ 0 + n = omega arith in
    ap (slice_get plan.programs) (sym same))
