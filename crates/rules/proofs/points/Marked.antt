-- What the rules on marked programs say, where nothing is found.
use Rattle.std.proofs.Common.{◌≡◌, ℕ, zero, suc, ◌≤◌, Bool, true, false, List, [], ◌∷◌, refl, arith, ap, sym, ◌∙◌, subst, length}
use Rattle.std.specs.Prelude.{◌&&◌, ◌||◌, Option, Some, None}
use Rattle.std.specs.List.{list_any, slice_get}
use Rattle.std.specs.Str.{bytes_eq}
use Rattle.std.specs.Cmp.Derive.{both_true}
use Rattle.std.proofs.lemmas.Bool.{eq-eqb}
use Rattle.rights.proofs.Tests.{both_left, both_right, not_true}
use Rattle.rights.proofs.Words.{same_bytes}
use Rattle.certificate.specs.Bounds.{Bound, Certificate, bound_at}
use Rattle.instruction_set.specs.Programs.{Instruction}
use Rattle.task.specs.KeptLimits.{KeepsPrograms}
use Rattle.task.specs.Plans.{NamedProgram, Plan, marked_in, name_in, is_marked, program_name}
use Rattle.rules.specs.Authority.{keeps_ceilings, keeps_moves, keeps_received, keeps_sent, may_start_all}
use Rattle.rules.specs.Points.{instruction_at}
use Rattle.rules.specs.Rules.{authority_tests, enters_within, mark_tests, marked_at, starts_in_authority, tests, tests_without}
use Rattle.rules.specs.Slots.{may_be_on}
use Rattle.rules.specs.Verdicts.{found_at, found_with}
use Rattle.rules.proofs.points.Asked.{AreKept, none_broken}
use Rattle.rules.proofs.points.AskedCalls.{if_passes}
use Rattle.rules.proofs.frames.KeptTrees.{both_or_none}
use Rattle.rules.proofs.worlds.Invariant.{marks}
use Rattle.rules.specs.Within.{own_authority}

-- ## Marks by number and by name
-- an element that passes the test, and one that is found by it
pub any_at : {A : Type 0} (test : A → Bool) (xs : List A) (j : ℕ) (x : A) → slice_get xs j ≡ Some x → test x ≡ true → list_any test xs ≡ true
any_at test [] j x here passes = absurd cc
any_at test (y ∷ xs) zero x here passes =
    let same : y ≡ x = cc in
    let passed : test y ≡ true = ap test same ∙ passes in
    either_left (test y) (list_any test xs) passed
  where
    either_left : (a b : Bool) → a ≡ true → (a || b) ≡ true
    either_left true b h = refl
    either_left false b h = absurd cc
any_at test (y ∷ xs) (suc j) x here passes = either_right (test y) (list_any test xs) (any_at test xs j x here passes)
  where
    either_right : (a b : Bool) → b ≡ true → (a || b) ≡ true
    either_right true b h = refl
    either_right false b h = h

pub record Passing {A : Type 0} (test : A → Bool) (xs : List A) : Type 0 where
  pub number : ℕ
  pub element : A
  pub there : slice_get xs number ≡ Some element
  pub passes : test element ≡ true

pub any_found : {A : Type 0} (test : A → Bool) (xs : List A) → list_any test xs ≡ true → Passing test xs
any_found test [] any = absurd cc
any_found test (x ∷ xs) any = go (test x) refl any (any_found test xs)
  where
    go : (b : Bool) → test x ≡ b → (b || list_any test xs) ≡ true → (list_any test xs ≡ true → Passing test xs) → Passing test (x ∷ xs)
    go true is any later = record { number = 0; element = x; there = refl; passes = is }
    go false is any later =
        let found : Passing test xs = later any in
        record { number = suc found.number; element = found.element; there = found.there; passes = found.passes }

bytes_self : (name : List ℕ) → bytes_eq name name ≡ true
bytes_self [] = refl
bytes_self (b ∷ name) = both_true (eq-eqb b b refl) (bytes_self name)

pub marked_by_name : (plan : Plan) → KeepsPrograms plan → (n : ℕ) → marks plan n ≡ marked_at plan n
marked_by_name plan keeps n = go (slice_get plan.programs n) refl
  where
    go : (o : Option NamedProgram) → slice_get plan.programs n ≡ o → marked_in o ≡ is_marked plan.programs (name_in o)
    go None none =
        both_or_none false (is_marked plan.programs []) (λ never. absurd cc)
        (λ any.
        let found = any_found (λ (p : NamedProgram). p.marked && bytes_eq p.name []) plan.programs any in
        let empty : found.element.name ≡ [] = same_bytes found.element.name [] (both_right found.element.marked _ found.passes) in
        let some : 1 ≤ length found.element.name = (keeps.named found.number found.element found.there).some in
        absurd (omega (arith, some, ap length empty)))
    go (Some q) here =
        both_or_none q.marked (is_marked plan.programs q.name)
        (λ is. any_at (λ (p : NamedProgram). p.marked && bytes_eq p.name q.name) plan.programs n q here (both_true is (bytes_self q.name)))
        (λ any.
        let found = any_found (λ (p : NamedProgram). p.marked && bytes_eq p.name q.name) plan.programs any in
        let named : found.element.name ≡ q.name = same_bytes found.element.name q.name (both_right found.element.marked _ found.passes) in
        let number : found.number ≡ n = keeps.names found.number n found.element q found.there here named in
        let both : Some found.element ≡ Some q = sym found.there ∙ ap (slice_get plan.programs) number ∙ here in
        let one : found.element ≡ q = cc in
        sym (ap (λ (p : NamedProgram). p.marked) one) ∙ both_left _ (bytes_eq found.element.name q.name) found.passes)

-- ## What is asked of an authority
pub record AuthorityAsked (plan : Plan) (certificate : Certificate) (program : ℕ) : Type 0 where
  pub ceilings : keeps_ceilings plan.wide plan.grants (own_authority plan certificate program) ≡ true
  pub moves : keeps_moves (own_authority plan certificate program) ≡ true
  pub received : keeps_received plan.wide certificate (own_authority plan certificate program) ≡ true
  pub sent : keeps_sent certificate (own_authority plan certificate program) ≡ true

-- and of a first process of the program that starts in the mode
pub record FirstAsked (plan : Plan) (certificate : Certificate) (program : ℕ) : Type 0 where
  pub authority : AuthorityAsked plan certificate program
  pub starts : may_start_all plan.wide plan (own_authority plan certificate program) program plan.starts ≡ true

module _ (plan : Plan) (certificate : Certificate) (program : ℕ) (marked : marked_at plan program ≡ true) where
  asked_of_authority : AreKept (authority_tests plan certificate program 0) → AuthorityAsked plan certificate program
  unfolding authority_tests
  asked_of_authority all = record {
    ceilings = if_passes (marked_at plan program) _ all.0 marked;
    moves = if_passes (marked_at plan program) _ all.1.0 marked;
    received = if_passes (marked_at plan program) _ all.1.1.0 marked;
    sent = if_passes (marked_at plan program) _ all.1.1.1.0 marked;
  }

  pub first_asked : (i : Instruction) → instruction_at plan program 0 ≡ Some i → found_at plan certificate program 0 ≡ None → FirstAsked plan certificate program
  unfolding found_at found_with tests tests_without mark_tests
  first_asked i here none = by_bound (bound_at certificate (program_name plan program) 0) refl
    where
      at : found_with plan certificate program 0 (Some i) (bound_at certificate (program_name plan program) 0) ≡ None
      at = subst (λ o. found_with plan certificate program 0 o (bound_at certificate (program_name plan program) 0) ≡ None) here none

      by_bound : (o : Option Bound) → bound_at certificate (program_name plan program) 0 ≡ o → FirstAsked plan certificate program
      by_bound None without =
          let all = none_broken (tests_without plan certificate program 0) (subst (λ o. found_with plan certificate program 0 (Some i) o ≡ None) without at) in
          record { authority = asked_of_authority all.1.1; starts = if_passes (marked_at plan program) _ all.1.0 marked }
      by_bound (Some b) bounded =
          let all = none_broken (tests plan certificate program 0 i b) (subst (λ o. found_with plan certificate program 0 (Some i) o ≡ None) bounded at) in
          let from_10 = all.1.1.1.1.1.1.1.1.1 in
          let from_17 = from_10.1.1.1.1.1.1.1 in
          let both = if_passes (marked_at plan program) _ from_17.1.0 marked in
          record { authority = asked_of_authority from_17.1.1; starts = both_right (enters_within plan.wide (own_authority plan certificate program) i b) _ both }

  -- ## What is asked at a point
  pub record PointAsked (i : Instruction) (b : Bound) : Type 0 where
    pub off : may_be_on b.mode ≡ false
    pub enters : enters_within plan.wide (own_authority plan certificate program) i b ≡ true

  pub point_asked : (point : ℕ) (i : Instruction) (b : Bound) → instruction_at plan program point ≡ Some i → bound_at certificate (program_name plan program) point ≡ Some b
      → found_at plan certificate program point ≡ None → PointAsked i b
  unfolding found_at found_with tests mark_tests
  point_asked point i b here bounded none =
      let all = none_broken (tests plan certificate program point i b)
      (subst (λ o. found_with plan certificate program point (Some i) o ≡ None) bounded
      (subst (λ o. found_with plan certificate program point o (bound_at certificate (program_name plan program) point) ≡ None) here none)) in
      let from_10 = all.1.1.1.1.1.1.1.1.1 in
      let from_17 = from_10.1.1.1.1.1.1.1 in
      record {
        off = not_true (may_be_on b.mode) (if_passes (marked_at plan program) _ from_17.0 marked);
        enters = both_left _ (starts_in_authority plan (own_authority plan certificate program) program point) (if_passes (marked_at plan program) _ from_17.1.0 marked);
      }
