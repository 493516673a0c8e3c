use Rattle.std.proofs.Common.{sym, refl, ap, ◌∙◌}
use Rattle.std.proofs.lemmas.Iterator.Consumers.{YieldsList-end, YieldsList-from_first}
use Rattle.texts.specs.Lines.{lines_of}
use Rattle.texts.specs.LineViews.{line_of}
use Rattle.task_text.specs.SourceViews.{texts_in}
use Rattle.task_text.proofs.PlaceLaws.{none-before}
use Rattle.task_text.proofs.program_texts.ProgramText.source_lines.Goals as goal

pub loop-line-init : goal.loop-line-init
loop-line-init c = (sym (none-before c.args.file.now (1, 1)), search, search, search)

pub returns : goal.returns
returns c =
    let end = YieldsList-end (YieldsList-from_first line_of (λ lines. lines) _ refl) c.loop-line.yielded _ c.loop-line.yielded_by _ _ c.in-None.is c.next.ensures.steps in
    c.loop-line.invariant.1
    ∙ ap texts_in (end.0 ∙ c.into_iter-line-iterator.ensures.into_iter_gives ∙ c.new-line-items.ensures.lines ∙ ap lines_of c.bytes.ensures)
