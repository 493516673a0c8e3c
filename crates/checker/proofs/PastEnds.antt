-- Nothing is found past the ends of the list of programs and of a program.
use Rattle.std.proofs.Common.{◌≡◌, ℕ, ◌<◌, ◌≤◌, ◌⊎◌, inl, inr, arith, true, List, ap, sym, ◌∙◌, length}
use Rattle.std.proofs.Math.ListN.{length-map}
use Rattle.kernel.proofs.Fresh.{lt_or_le}
use Rattle.std.specs.Prelude.{None}
use Rattle.std.specs.List.{slice_get, list_all}
use Rattle.std.proofs.lemmas.Bool.{leb-true}
use Rattle.std.proofs.lemmas.Option.{slice_get_past}
use Rattle.rights.proofs.Tests.{both_left}
use Rattle.certificate.specs.Bounds.{Certificate, bound_at}
use Rattle.instruction_set.specs.Programs.{Instruction, is_program, is_instruction, ends_well}
use Rattle.task.specs.declared.programs.NamedProgram.{NamedProgram as NamedProgramCode}
use Rattle.task.specs.Plans.{Plan, code_in, program_name}
use Rattle.task.specs.Views.{program_of, programs_of}
use Rattle.rules.specs.Points.{instruction_at}
use Rattle.rules.specs.Verdicts.{MeetsRules, found_with, found_at}

pub no_instruction : (plan : Plan) (certificate : Certificate) (program point : ℕ) → instruction_at plan program point ≡ None → found_at plan certificate program point ≡ None
unfolding found_at found_with
no_instruction plan certificate program point none =
    ap (λ o. found_with plan certificate program point o (bound_at certificate (program_name plan program) point)) none

pub past_programs : (plan : Plan) (certificate : Certificate) (program point : ℕ) → length plan.programs ≤ program → found_at plan certificate program point ≡ None
past_programs plan certificate program point past =
    no_instruction plan certificate program point (ap (λ p. slice_get (code_in p) point) (slice_get_past plan.programs program past))

-- a program has at most 256 points
pub few_points : (code : List Instruction) → is_program code ≡ true → length code ≤ 256
few_points code valid =
    leb-true _ _ (both_left _ (list_all (is_instruction (length code)) code) (both_left _ (ends_well code) valid))

-- where nothing is found in any program of the list, the certificate meets the rules
pub meets : (plan : Plan) (certificate : Certificate) (items : List NamedProgramCode) (n : ℕ) → programs_of items ≡ plan.programs → length items ≤ n
    → ((p k : ℕ) → p < n → found_at plan certificate p k ≡ None) → MeetsRules plan certificate
meets plan certificate items n same all none = λ program point. at program point (lt_or_le program n)
  where
    many : length plan.programs ≤ n
    many =
        let sized : length items ≡ length plan.programs = sym (length-map items program_of) ∙ ap length same in
        omega (arith, sized, all)

    at : (program point : ℕ) → (program < n) ⊎ (n ≤ program) → found_at plan certificate program point ≡ None
    at program point (inl before) = none program point before
    at program point (inr from) = past_programs plan certificate program point (omega (arith, from, many))
