use Rattle.std.proofs.Common.{◌≡◌, length, ap, sym, ◌∙◌, subst}
use Rattle.std.specs.Prelude.{Some}
use Rattle.std.specs.List.{slice_get}
use Rattle.std.proofs.lemmas.List.{length-map, map-append}
use Rattle.prog_asm.specs.LineParts.{IsLineOf}
use Rattle.instruction_set.specs.Views.{code_of, instruction_of}
use Rattle.task_text.specs.Instructions.{AreLinesOf}
use Rattle.task_text.specs.Places.{part}
use Rattle.task_text.specs.ProgramViews.{texts_at}
use Rattle.task_text.proofs.TextLaws.{one-line, seen-there}
use Rattle.task_text.proofs.program_texts.instructions_in.Goals as goal

pub loop-line-preserved : goal.loop-line-preserved
loop-line-preserved c =
    let wide = c.args.wide in
    let text = c.args.text.now in
    let spans = c.loop-line.spans.items in
    let instruction = c.in-Some-get.instruction.now in
    let lookup = c.in-Some-get.ensures.lookup in
    let is : IsLineOf wide c.part.result.now (instruction_of instruction) = c.in_ok-is_line_of.ensures c.if-not-branch.false in
    let there : slice_get (code_of c.args.code.now) (length (texts_at text spans)) ≡ Some (instruction_of instruction) =
    ap (slice_get (code_of c.args.code.now)) (length-map spans (λ span. part text span.start span.end) ∙ sym (c.len.ensures ∙ c.loop-line.spans.ok.0))
    ∙ seen-there instruction_of c.args.code.now c.len.result instruction lookup.3.0 lookup.1
    in
    subst (λ texts. AreLinesOf wide texts (code_of c.args.code.now))
    (sym (ap (texts_at text) c.in_ok-push.ensures.items ∙ map-append (λ span. part text span.start span.end) spans _))
    (one-line wide (texts_at text spans) (code_of c.args.code.now) _ _ c.loop-line.invariant there (subst (λ text. IsLineOf wide text (instruction_of instruction)) c.part.ensures is))
