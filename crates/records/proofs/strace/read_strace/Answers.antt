use Rattle.std.proofs.Common.{length, map, sym, refl, ap, ◌∙◌}
use Rattle.std.proofs.lemmas.Iterator.Consumers.{YieldsList-end, YieldsList-from_first}
use Rattle.std.proofs.lemmas.List.{length-map}
use Rattle.records.specs.declared.strace.StraceLine.{StraceLine}
use Rattle.texts.specs.Lines.{Line, lines_of}
use Rattle.texts.specs.LineViews.{line_of}
use Rattle.records.proofs.strace.read_strace.Goals as goal

pub returns-clause-texts : goal.returns-clause-texts
returns-clause-texts c =
    let end = YieldsList-end (YieldsList-from_first line_of (λ lines. lines) _ refl) c.loop-line.yielded _ c.loop-line.yielded_by _ _ c.in-None.is c.next.ensures.steps in
    c.loop-line.invariant
    ∙ ap (map (λ (line : Line). line.text)) (end.0 ∙ c.into_iter-line-iterator.ensures.into_iter_gives ∙ c.new-line-items.ensures.lines)

pub returns-clause-length : goal.returns-clause-length
returns-clause-length c =
    sym (length-map c.loop-line.told.items (λ (line : StraceLine). line.text.now)) ∙ ap length (returns-clause-texts c)
    ∙ length-map (lines_of c.args.text.now) (λ (line : Line). line.text)
