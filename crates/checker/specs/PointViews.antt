-- Points of the code that the rules are asked of.
use Rattle.std.specs.Prelude.{◌+◌, ◌==◌, ℕ, Bool, List, Option, Some, option_map, if◌then◌else◌}
use Rattle.certificate.specs.Bounds.{Authority, Bound, Certificate, bound_at}
use Rattle.certificate.specs.Views.{bound_of}
use Rattle.texts.specs.Views.{name_of}
use Rattle.checker.specs.Findings.{tests_with}
use Rattle.checker.specs.KeptUses.{tests_of_call}
use Rattle.checker.specs.declared.asked.AskedPoint.{AskedPoint}
use Rattle.checker.specs.declared.asked.AskedProgram.{AskedProgram}
use Rattle.instruction_set.specs.Programs.{Instruction, Invoke, Syscall}
use Rattle.instruction_set.specs.Views.{instruction_of}
use Rattle.rules.specs.Authority.{authority_at}
use Rattle.rules.specs.Expansions.{expansion}
use Rattle.rules.specs.Outcomes.{Outcome, successes_in}
use Rattle.rules.specs.Rules.{Test, starts_in_authority}
use Rattle.task.specs.Plans.{program_name}

abbrev pub expansion_of : AskedProgram → Certificate
expansion_of p = expansion p.task.now p.cert.now

abbrev pub authority_of_program : AskedProgram → Authority
authority_of_program p = authority_at p.cert.now (program_name p.task.now p.program)

abbrev pub instruction_of_point : AskedPoint → Instruction
instruction_of_point at = instruction_of at.instruction.now

abbrev pub name_of_point : AskedPoint → List ℕ
name_of_point at = name_of at.of.now.name

-- the tests that the definition makes at the point, and at it with this bound
abbrev pub tests_by : AskedPoint → Option Bound → List Test
tests_by at b = tests_with at.of.now.task.now (expansion_of at.of.now) at.of.now.program at.point (Some (instruction_of_point at)) b

abbrev pub tests_of : AskedPoint → List Test
tests_of at = tests_by at (option_map bound_of at.bound)

-- those of a call there
abbrev pub call_tests_of : AskedPoint → Bound → Instruction → List Test
call_tests_of at b i = tests_of_call at.of.now.task.now (expansion_of at.of.now) at.point b i

abbrev pub call_tests : AskedPoint → Bound → Syscall → List Test
call_tests at b call = call_tests_of at b (Invoke call 0)

-- whether what a process holds that starts in the mode there is within the program's authority
abbrev pub starts_there : AskedPoint → Bool
starts_there at = starts_in_authority at.of.now.task.now (authority_of_program at.of.now) at.of.now.program at.point

-- where it leads with this bound, and what an outcome meets there
abbrev pub successes_from : AskedPoint → Bound → List Outcome
successes_from at b = successes_in at.of.now.task.now (expansion_of at.of.now) (name_of_point at) at.point b (instruction_of_point at)

abbrev pub met_from : AskedPoint → ℕ → Option Bound
met_from at point = if point == at.point + 1 then option_map bound_of at.there else bound_at at.of.now.cert.now (name_of_point at) point
