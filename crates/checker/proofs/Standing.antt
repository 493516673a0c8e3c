-- What is found at a point of a program in the expansion of a certificate.
use Rattle.std.proofs.Common.{◌≡◌, ◌<◌, ◌+◌, ℕ, suc, true, List, length, refl, ap, sym, ◌∙◌, arith}
use Rattle.std.specs.Prelude.{◌&&◌, Bool, false, Option, Some, None, if◌then◌else◌, option_map}
use Rattle.std.specs.List.{slice_get, slice_index_or}
use Rattle.certificate.specs.Bounds.{Bound, Certificate, bound_at}
use Rattle.certificate.specs.Growth.{IsCertificate}
use Rattle.instruction_set.specs.Programs.{Instruction}
use Rattle.instruction_set.specs.Views.{code_of, instruction_of}
use Rattle.instruction_set.specs.declared.instructions.Instruction.{Instruction as InstructionCode}
use Rattle.std.proofs.lemmas.Option.{slice_get-map, slice_get_read}
use Rattle.task.specs.Plans.{Plan, program_name, programs_of_plan}
use Rattle.task.specs.Limits.{is_plan}
use Rattle.rules.specs.Carrying.{carried_on}
use Rattle.rules.specs.Expansions.{or_carried, code_named, may_carry, carried_by, carried_to, bound_there, expansion}
use Rattle.rules.proofs.expansions.Arriving.{code_is, expansion_bounds}
use Rattle.certificate.specs.Views.{bound_of}
use Rattle.texts.specs.Views.{name_of}
use Rattle.checker.specs.declared.asked.AskedPoint.{AskedPoint}
use Rattle.checker.specs.declared.asked.AskedProgram.{AskedProgram}
use Rattle.checker.proofs.Made.{bound_made}

pub alone : (b : Bool) → b ≡ (b && true)
alone true = refl
alone false = refl

-- an instruction that is read from code is in it
pub read_there : (code : List InstructionCode) (point : ℕ) (i : InstructionCode) → point < length code → i ≡ slice_index_or code point i
    → slice_get (code_of code) point ≡ Some (instruction_of (slice_index_or code point i))
read_there code point i below is =
    slice_get-map instruction_of code point ∙ ap (option_map instruction_of) (slice_get_read code (length code) point i refl below is)
    ∙ ap (λ (j : InstructionCode). Some (instruction_of j)) is

-- the code of a program that is there, by its name
pub named_code : (plan : Plan) (program : ℕ) (name : List ℕ) (code : List Instruction) → is_plan plan ≡ true → name ≡ program_name plan program → program < length plan.programs
    → code ≡ programs_of_plan plan program → code ≡ code_named plan.programs name
named_code plan program name code valid named there is =
    is ∙ sym (code_is plan program valid there) ∙ ap (code_named plan.programs) (sym named)

pub bound_is : (plan : Plan) (c : Certificate) (program point : ℕ) (name : List ℕ) (bound : Option Bound) → is_plan plan ≡ true → ∥ IsCertificate c ∥₁ → name ≡ program_name plan program
    → bound ≡ bound_there plan c name point → bound_at (expansion plan c) (program_name plan program) point ≡ bound
bound_is plan c program point name bound valid merely named is =
    ap (λ n. bound_at (expansion plan c) n point) (sym named) ∙ bound_made c _ _ merely (expansion_bounds plan c name point valid) ∙ sym is

-- where nothing is carried, a bound is the one that is given
pub or_none : (o : Option Bound) → or_carried o None ≡ o
or_none None = refl
or_none (Some b) = refl

-- The bound of point 0 is what is given there.
pub bound_first : (plan : Plan) (c : Certificate) (name : List ℕ) (bound : Option Bound) → bound ≡ bound_at c name 0 → bound ≡ bound_there plan c name 0
unfolding carried_to
bound_first plan c name bound is = is ∙ sym (or_none (bound_at c name 0))

-- The bound of the next point is what is given there, or else what a point's own bound carries on.
pub bound_next : (plan : Plan) (c : Certificate) (name : List ℕ) (point : ℕ) (bound carried next : Option Bound) → bound ≡ bound_there plan c name point
    → carried ≡ carried_by plan c name point (slice_get (code_named plan.programs name) point) bound
    → next ≡ or_carried (bound_at c name (point + 1)) carried → next ≡ bound_there plan c name (point + 1)
unfolding carried_to
bound_next plan c name point bound carried next is past met =
    let more : suc point ≡ point + 1 = omega arith in
    let on : carried ≡ carried_to plan c name (suc point) = past ∙ ap (carried_by plan c name point (slice_get (code_named plan.programs name) point)) is in
    met ∙ (λ k. or_carried (bound_at c name (point + 1)) ((on ∙ ap (carried_to plan c name) more) k))

-- and where a point of a program is asked, that is where it leads
pub bound_along : (at : AskedPoint) (of : AskedProgram) (point : ℕ) → at.of.now ≡ of → at.point ≡ point
    → option_map bound_of at.there ≡ bound_there of.task.now of.cert.now (name_of of.name) (point + 1)
bound_along at of point own there = at.leads ∙ (λ k. bound_there (own k).task.now (own k).cert.now (name_of (own k).name) (there k + 1))

pub carried_is : (plan : Plan) (c : Certificate) (name : List ℕ) (point : ℕ) (code : List Instruction) (i : Instruction) (b : Bound)
    → code ≡ code_named plan.programs name → slice_get code point ≡ Some i → may_carry c.version code (point + 1) ≡ true
    → carried_on plan c name point b i ≡ carried_by plan c name point (slice_get (code_named plan.programs name) point) (Some b)
carried_is plan c name point code i b is here may =
    let more : suc point ≡ point + 1 = omega arith in
    sym (ap (λ may. if may then carried_on plan c name point b i else None) (λ k. may_carry c.version (sym is k) (more k))
    ∙ ap (λ may. if may then carried_on plan c name point b i else None) may)
    ∙ (λ k. carried_by plan c name point (there k) (Some b))
  where
    there : Some i ≡ slice_get (code_named plan.programs name) point
    there = sym here ∙ ap (λ code. slice_get code point) is
