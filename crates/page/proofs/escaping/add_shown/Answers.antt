use Rattle.std.proofs.Common.{ℕ, List, arith, length, take, take_all, get_or, ap, map-id, sym, ◌∙◌, ◌≤◌}
use Rattle.std.proofs.lemmas.List.{take_more}
use Rattle.std.specs.List.{flat_map}
use Rattle.std.specs.Str.{encode_utf8_all}
use Rattle.std.proofs.lemmas.Iterator.{YieldsList-from_chars}
use Rattle.std.proofs.lemmas.Iterator.Consumers.{YieldsList-end}
use Rattle.texts.proofs.PageLaws.{adds_both}
use Rattle.page.specs.Escaping.{shown_byte, shown_letter}
use Rattle.page.proofs.EscapingLaws.{adds-same, one-more, shown-bytes, shown-letters}
use Rattle.page.proofs.escaping.add_shown.Goals as goal

pub loop-letter-preserved : goal.loop-letter-preserved
loop-letter-preserved c =
    adds-same _ _ _ _ (adds_both _ _ _ _ _ c.loop-letter.invariant c.add_letter.ensures) (one-more shown_letter c.loop-letter.yielded c.in-Some.letter)

pub loop-byte-preserved : goal.loop-byte-preserved
loop-byte-preserved c =
    let text : List ℕ = c.args.text.now in
    let i : ℕ = c.loop-byte.byte-index in
    adds-same _ _ _ _ (adds_both _ _ _ _ _ c.loop-byte.invariant c.add_byte.ensures)
    (one-more shown_byte (take i text) (get_or text i 0)
    ∙ ap (λ front. encode_utf8_all (flat_map shown_byte front)) (sym (take_more text i 0 c.loop-byte-test.true)))

pub returns-in-None : goal.returns-in-None
returns-in-None c =
    let text : List ℕ = c.args.text.now in
    let is = c.in-Ok.ensures.cases in
    let end = YieldsList-end (YieldsList-from_chars text is.1 (cc)) c.loop-letter.yielded _ c.loop-letter.yielded_by _ _ c.in-None.is c.next.ensures.steps in
    adds-same _ _ _ _ c.loop-letter.invariant (shown-letters text c.loop-letter.yielded is.1 (sym (map-id c.loop-letter.yielded) ∙ end.0))

pub returns-after-loop-byte : goal.returns-after-loop-byte
returns-after-loop-byte c =
    let text : List ℕ = c.args.text.now in
    let all : length text ≤ c.loop-byte.byte-index = omega arith in
    adds-same _ _ _ _ c.loop-byte.invariant (ap (λ front. encode_utf8_all (flat_map shown_byte front)) (take_all c.loop-byte.byte-index text all) ∙ shown-bytes text c.in-Err.ensures.cases.0)
