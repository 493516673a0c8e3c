use Rattle.std.proofs.Common.{◌≡◌, ◌∷◌, ◌++◌, decimal, sym, subst, ap, ◌∙◌, append_assoc}
use Rattle.texts.specs.PageViews.{Adds}
use Rattle.texts.proofs.PageLaws.{adds_both}
use Rattle.records.specs.EntryViews.{record_entry_seen}
use Rattle.records.specs.Texts.{entry_text, event_words, after_spaces}
use Rattle.records.proofs.LineLaws.{joined-spaced}
use Rattle.records.proofs.line_texts.add_entry.Goals as goal

pub returns : goal.returns
unfolding entry_text
returns c =
    let entry = record_entry_seen c.args.entry.now in
    let first = decimal entry.span.first in
    let last = decimal entry.span.last in
    let process = decimal entry.process in
    let words = event_words entry.event in
    let both = adds_both _ _ _ _ _ c.say.ensures c.add_event.ensures in
    let text : (first ++ 32 ∷ (last ++ 32 ∷ process)) ++ after_spaces words ≡ first ++ after_spaces (last ∷ process ∷ words) =
    append_assoc first (32 ∷ (last ++ 32 ∷ process)) (after_spaces words) ∙ ap (λ rest. first ++ 32 ∷ rest) (append_assoc last (32 ∷ process) (after_spaces words))
    in
    subst (Adds c.args.page.now c.add_event.new.page) (text ∙ sym (joined-spaced first (last ∷ process ∷ words))) both
