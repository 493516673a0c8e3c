use Rattle.std.proofs.Common.{arith, ◌+◌, ◌∷◌, [], length, ap, sym, ◌∙◌, subst, length-append}
use Rattle.std.specs.List.{slice_get}
use Rattle.instruction_set.specs.Views.{code_of}
use Rattle.std.proofs.lemmas.List.{length-map}
use Rattle.task.specs.Views.{program_of, programs_of}
use Rattle.task_text.specs.Instructions.{AreLinesOf}
use Rattle.task_text.specs.ProgramViews.{AreTextsOf, codes_in, texts_at}
use Rattle.task_text.proofs.TextLaws.{code-there, one-text}
use Rattle.task_text.specs.declared.program_texts.ProgramText.{ProgramText}
use Rattle.task_text.proofs.program_texts.texts_of_file.Goals as goal

pub loop-program-preserved : goal.loop-program-preserved
loop-program-preserved c =
    let wide = c.args.task.now.wide in
    let programs = c.programs-program-items.result.now in
    let program = c.program-item.result in
    let texts = c.loop-program.texts.items in
    let text : ProgramText = record { code = c.unwrap_or-code.result; instructions = c.in_ok-instructions.instructions } in
    let lines : AreLinesOf wide (texts_at text.code.bytes.items text.instructions.items) program.program =
    subst (AreLinesOf wide (texts_at text.code.bytes.items text.instructions.items)) c.code.ensures.value
    (subst (λ bytes. AreLinesOf wide (texts_at bytes text.instructions.items) (code_of c.code.result.now)) c.deref.ensures.value
    (subst (λ own. AreLinesOf own (texts_at c.deref.result.now text.instructions.items) (code_of c.code.result.now)) c.further_rights.ensures c.in_ok-instructions.ensures))
    in
    let there = ap (λ n. slice_get (codes_in (programs_of programs)) n) c.loop-program.invariant.0
    ∙ code-there programs c.loop-program.program-index program c.loop-program-test.true c.program-item.is in (
      ap length c.in_ok-push.ensures.items ∙ length-append texts (text ∷ []) ∙ ap (λ n. n + 1) c.loop-program.invariant.0,
      subst (λ texts. AreTextsOf wide texts (codes_in (programs_of programs))) (sym c.in_ok-push.ensures.items) (
          one-text wide texts (codes_in (programs_of programs)) text program.program c.loop-program.invariant.1 there lines
          ),
    )

pub returns-clause-each : goal.returns-clause-each
returns-clause-each c =
    let programs = c.programs-program-items.result.now in
    omega (arith, c.loop-program.invariant.0, c.loop-program-test.false, c.loop-program.auto.program-index-end, length-map programs program_of, ap length c.programs-program-items.ensures.programs)
