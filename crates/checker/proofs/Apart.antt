-- What is found point by point, and program by program.
use Rattle.std.proofs.Common.{◌≡◌, ◌+◌, ℕ, zero, suc, List, [], ◌++◌, length, Some, None, refl, ap, sym, ◌∙◌, subst, append_assoc, append-nil, arith}
use Rattle.std.specs.Prelude.{Option}
use Rattle.certificate.specs.Bounds.{Bound, Certificate, bound_at}
use Rattle.instruction_set.specs.Programs.{Instruction}
use Rattle.task.specs.Plans.{Plan, program_name, programs_of_plan}
use Rattle.rules.specs.Points.{instruction_at}
use Rattle.checker.specs.Findings.{BrokenRule, findings_before, findings_in, findings_of_programs, tests_there, tests_with}

-- Parts are added one after another.
pub after_two : (old first second next last : List BrokenRule) → next ≡ old ++ first → last ≡ next ++ second → last ≡ old ++ (first ++ second)
after_two old first second next last one two = two ∙ ap (λ l. l ++ second) one ∙ append_assoc old first second

module _ (plan : Plan) (c : Certificate) (program point : ℕ) where
  -- past a program's end nothing is tested
  pub nothing_there : instruction_at plan program point ≡ None → tests_there plan c program point ≡ []
  unfolding tests_there tests_with
  nothing_there none = ap (λ o. tests_with plan c program point o (bound_at c (program_name plan program) point)) none

  -- and else what the definition tests by its instruction and its bound
  pub tests_are : (i : Instruction) (o : Option Bound) → instruction_at plan program point ≡ Some i → o ≡ bound_at c (program_name plan program) point
      → tests_with plan c program point (Some i) o ≡ tests_there plan c program point
  unfolding tests_there
  tests_are i o here same = λ k. tests_with plan c program point (sym here k) (same k)

-- ## Along a program
pub along_next : (plan : Plan) (c : Certificate) (program point : ℕ) (old before after : List BrokenRule) → before ≡ old ++ findings_before plan c program point
    → after ≡ before ++ findings_in program point (tests_there plan c program point) → after ≡ old ++ findings_before plan c program (point + 1)
unfolding findings_before
along_next plan c program point old before after so_far here =
    let more : suc point ≡ point + 1 = omega arith in
    subst (λ n. after ≡ old ++ findings_before plan c program n) more
    (after_two old (findings_before plan c program point) (findings_in program point (tests_there plan c program point)) before after so_far here)

pub along_none : (plan : Plan) (c : Certificate) (program : ℕ) (old : List BrokenRule) → old ≡ old ++ findings_before plan c program 0
unfolding findings_before
along_none plan c program old = sym (append-nil old)

-- a program that has no points
pub along_empty : (plan : Plan) (c : Certificate) (program count : ℕ) → ((point : ℕ) → instruction_at plan program point ≡ None) → findings_before plan c program count ≡ []
unfolding findings_before
along_empty plan c program zero none = refl
along_empty plan c program (suc count) none =
    (λ k. along_empty plan c program count none k ++ findings_in program count (nothing_there plan c program count (none count) k))

pub programs_none : (plan : Plan) (c : Certificate) → [] ≡ findings_of_programs plan c 0
unfolding findings_of_programs
programs_none plan c = refl

pub programs_next : (plan : Plan) (c : Certificate) (program count : ℕ) (before after : List BrokenRule) → count ≡ length (programs_of_plan plan program)
    → before ≡ findings_of_programs plan c program → after ≡ before ++ findings_before plan c program count → after ≡ findings_of_programs plan c (program + 1)
unfolding findings_of_programs
programs_next plan c program count before after sized so_far here =
    let more : suc program ≡ program + 1 = omega arith in
    subst (λ n. after ≡ findings_of_programs plan c n) more
    (here ∙ (λ k. so_far k ++ findings_before plan c program (sized k)))
