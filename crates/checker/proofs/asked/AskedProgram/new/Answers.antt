use Rattle.std.proofs.Common.{◌≡◌, ◌∙◌, ap, sym}
use Rattle.texts.specs.Views.{name_of}
use Rattle.instruction_set.specs.Views.{code_of}
use Rattle.task.specs.Plans.{is_marked, program_name}
use Rattle.texts.specs.Names.{is_name}
use Rattle.checker.proofs.Named.{named_there, unnamed_empty}
use Rattle.checker.proofs.Standing.{named_code}
use Rattle.checker.proofs.asked.AskedProgram.new.Goals as goal

pub returns-in_err-name-clause-none : goal.returns-in_err-name-clause-none
returns-in_err-name-clause-none c = λ none point.
    unnamed_empty c.args.task.now c.args.program point c.programs-programs.ensures.valid (ap is_name (sym c.program_name.ensures) ∙ c.read.ensures.none.0 c.in_err-name.was)

pub invariant_of-result-clause-stands : goal.invariant_of-result-clause-stands
invariant_of-result-clause-stands c =
    let name = c.in_ok-name.name in
    let named : name_of name ≡ program_name c.args.task.now c.args.program = c.in_ok-name.ensures.some ∙ c.program_name.ensures in
    let there = named_there c.args.task.now c.args.program (ap is_name (sym named ∙ sym c.as_bytes.ensures.bytes) ∙ c.as_bytes.ensures.word) in
    named_code c.args.task.now c.args.program (name_of name) (code_of c.code_at-code.result.now) c.programs-programs.ensures.valid named there c.code_at-code.ensures.code

pub invariant_of-result-clause-marks : goal.invariant_of-result-clause-marks
invariant_of-result-clause-marks c =
    let bytes = c.as_bytes.ensures.bytes ∙ c.in_ok-name.ensures.some ∙ c.program_name.ensures in
    c.is_marked-marked.ensures ∙ (λ k. is_marked (c.programs-programs.ensures.programs k) (bytes k))
