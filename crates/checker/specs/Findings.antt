-- All rules that are broken, at all points of a task's programs. (own)
use Rattle.std.specs.Prelude.{◌≡◌, ◌↔◌, ℕ, zero, suc, List, [], ◌∷◌, ◌++◌, length, Option, Some, None, if◌then◌else◌}
use Rattle.std.specs.List.{Contains}
use Rattle.certificate.specs.Bounds.{Bound, Certificate, bound_at}
use Rattle.instruction_set.specs.Programs.{Instruction}
use Rattle.task.specs.Plans.{Plan, program_name, programs_of_plan}
use Rattle.rules.specs.Points.{instruction_at}
use Rattle.rules.specs.Rules.{Test, tests, tests_without}
use Rattle.rules.specs.Verdicts.{MeetsRules}

-- A rule that is broken at a point of a program, which is given by its place in the task.
pub record BrokenRule : Type 0 where
  pub program : ℕ
  pub point : ℕ
  pub rule : ℕ

-- the tests that the rules make at a point, by its instruction and its bound; none past a program's end
unfoldable pub tests_with : Plan → Certificate → ℕ → ℕ → Option Instruction → Option Bound → List Test
tests_with plan certificate program point None b = []
tests_with plan certificate program point (Some i) None = tests_without plan certificate program point
tests_with plan certificate program point (Some i) (Some b) = tests plan certificate program point i b

unfoldable pub tests_there : Plan → Certificate → ℕ → ℕ → List Test
tests_there plan certificate program point =
    tests_with plan certificate program point (instruction_at plan program point) (bound_at certificate (program_name plan program) point)

-- those that aren't kept, in the order of their rules
abbrev pub findings_in : ℕ → ℕ → List Test → List BrokenRule
findings_in program point [] = []
findings_in program point (t ∷ ts) =
    if t.kept then findings_in program point ts
    else record { program = program; point = point; rule = t.rule } ∷ findings_in program point ts

-- of the points before this one, and of the programs before this one
unfoldable pub findings_before : Plan → Certificate → ℕ → ℕ → List BrokenRule
findings_before plan certificate program zero = []
findings_before plan certificate program (suc point) =
    findings_before plan certificate program point ++ findings_in program point (tests_there plan certificate program point)

unfoldable pub findings_of_programs : Plan → Certificate → ℕ → List BrokenRule
findings_of_programs plan certificate zero = []
findings_of_programs plan certificate (suc program) =
    findings_of_programs plan certificate program
    ++ findings_before plan certificate program (length (programs_of_plan plan program))

-- All of them: by the task's order of programs, then by point, then by rule.
abbrev pub findings : Plan → Certificate → List BrokenRule
findings plan certificate = findings_of_programs plan certificate (length plan.programs)

-- That is each rule that some point breaks, and nothing else; so there is none where the certificate meets the rules.
abbrev pub IsBroken : Plan → Certificate → BrokenRule → Type 0
IsBroken plan certificate f = Contains (findings_in f.program f.point (tests_there plan certificate f.program f.point)) f

abbrev pub FindingsAreBroken : Type 0
FindingsAreBroken = (plan : Plan) (certificate : Certificate) (f : BrokenRule) → Contains (findings plan certificate) f ↔ IsBroken plan certificate f

abbrev pub NoFindingMeetsRules : Type 0
NoFindingMeetsRules = (plan : Plan) (certificate : Certificate) → (findings plan certificate ≡ []) ↔ MeetsRules plan certificate
