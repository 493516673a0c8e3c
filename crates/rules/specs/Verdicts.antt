-- Whether a certificate meets the rules, and else where it breaks one first. (own)
use Rattle.std.specs.Prelude.{◌≡◌, ◌<◌, ◌+◌, ℕ, true, List, [], ◌∷◌, Option, Some, None}
use Rattle.certificate.specs.Bounds.{Bound, Certificate, bound_at}
use Rattle.instruction_set.specs.Programs.{Instruction}
use Rattle.kernel.specs.Answers.{Event}
use Rattle.kernel.specs.Hostile.{Act}
use Rattle.task.specs.Begins.{first_world}
use Rattle.task.specs.Plans.{NamedProgram, Plan, program_name, none_marked}
use Rattle.task.specs.Limits.{is_plan}
use Rattle.task.specs.Confined.{AreSpoken, IsConfined}
use Rattle.task.specs.Sandboxed.{IsSandboxed}
use Rattle.rules.specs.Points.{instruction_at}
use Rattle.rules.specs.Rules.{tests, tests_without, least_broken}
use Rattle.rules.specs.Within.{StayWithin}

-- the least rule that is broken at a point of a program; none past a program's end
unfoldable pub found_with : Plan → Certificate → ℕ → ℕ → Option Instruction → Option Bound → Option ℕ
found_with plan certificate program point None b = None
found_with plan certificate program point (Some i) None = least_broken (tests_without plan certificate program point)
found_with plan certificate program point (Some i) (Some b) = least_broken (tests plan certificate program point i b)

unfoldable pub found_at : Plan → Certificate → ℕ → ℕ → Option ℕ
found_at plan certificate program point =
    found_with plan certificate program point (instruction_at plan program point) (bound_at certificate (program_name plan program) point)

-- The certificate meets the rules: none is broken at any point.
abbrev pub MeetsRules : Plan → Certificate → Type 0
MeetsRules plan certificate = (program point : ℕ) → found_at plan certificate program point ≡ None

-- This rule is the least that is broken at the point, and none is at any before, in the task's order of programs.
pub record IsFirstFound (plan : Plan) (certificate : Certificate) (program point rule : ℕ) : Type 0 where
  pub found : found_at plan certificate program point ≡ Some rule
  pub points : (k : ℕ) → k < point → found_at plan certificate program k ≡ None
  pub programs : (p k : ℕ) → p < program → found_at plan certificate p k ≡ None

-- ## By computation
-- Program, point and rule: the first points are asked first, and the first programs.
abbrev pub found_or : ℕ → ℕ → Option ℕ → Option (ℕ × ℕ × ℕ) → Option (ℕ × ℕ × ℕ)
found_or program point None rest = rest
found_or program point (Some rule) rest = Some (program, point, rule)

abbrev pub first_of_points : Plan → Certificate → ℕ → ℕ → List Instruction → Option (ℕ × ℕ × ℕ) → Option (ℕ × ℕ × ℕ)
first_of_points plan certificate program point [] rest = rest
first_of_points plan certificate program point (i ∷ code) rest =
    found_or program point (found_at plan certificate program point) (first_of_points plan certificate program (point + 1) code rest)

abbrev pub first_of_programs : Plan → Certificate → ℕ → List NamedProgram → Option (ℕ × ℕ × ℕ)
first_of_programs plan certificate program [] = None
first_of_programs plan certificate program (p ∷ programs) =
    first_of_points plan certificate program 0 p.code (first_of_programs plan certificate (program + 1) programs)

unfoldable pub first_found : Plan → Certificate → Option (ℕ × ℕ × ℕ)
first_found plan certificate = first_of_programs plan certificate 0 plan.programs

-- That is what the propositions say.
abbrev pub IsFirst : Plan → Certificate → Option (ℕ × ℕ × ℕ) → Type 0
IsFirst plan certificate None = MeetsRules plan certificate
IsFirst plan certificate (Some (program, point, rule)) = IsFirstFound plan certificate program point rule

abbrev pub FirstIsFound : Type 0
FirstIsFound = (plan : Plan) (certificate : Certificate) → IsFirst plan certificate (first_found plan certificate)

-- ## What it means
-- Where a certificate meets the rules, every run of the task is confined: whatever list of events, inputs, schedules and refusals,
-- whatever processes of marked programs do in the mode, and whatever fresh numbers are chosen at each step.
abbrev pub IsConfining : Type 0
IsConfining = (plan : Plan) (certificate : Certificate) → is_plan plan ≡ true → MeetsRules plan certificate → IsConfined plan

-- And what a process of a marked program holds in the mode is within the program's authority, before each event and after the last.
abbrev pub IsHeldWithin : Type 0
IsHeldWithin =
    (plan : Plan) (certificate : Certificate) → is_plan plan ≡ true → MeetsRules plan certificate → (events : List (Event × Act))
    → AreSpoken plan.wide events → StayWithin plan certificate (first_world plan) events

-- Where a certificate meets the rules and no program is marked, every run of the task is sandboxed: whatever list of events,
-- inputs, schedules and refusals, and whatever fresh numbers are chosen at each step.
abbrev pub IsSound : Type 0
IsSound =
    (plan : Plan) (certificate : Certificate) → is_plan plan ≡ true → none_marked plan ≡ true → MeetsRules plan certificate
    → IsSandboxed plan
