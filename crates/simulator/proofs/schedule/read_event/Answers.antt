use Rattle.std.proofs.Common.{◌≡◌, ◌∷◌, ap, sym, ◌∙◌}
use Rattle.texts.specs.Parts.{parts}
use Rattle.texts.proofs.PartLaws.{begins_some, begins_more}
use Rattle.simulator.proofs.EventWords.{four_words}
use Rattle.simulator.proofs.schedule.read_event.Goals as goal

-- a fourth word
pub returns-then-is_some : goal.returns-then-is_some
returns-then-is_some c =
    let line = c.args.line.now in
    let process = c.first_part.result.0.now in
    let input = c.first_part-2.result.0.now in
    let word = c.first_part-in-Some.result.0.now in
    let two : parts 32 line ≡ process ∷ parts 32 c.in_ok-rest.field-0.now =
    begins_some _ (parts 32 line) 32 process c.first_part.result.1 c.in_ok-rest.field-0 c.first_part.ensures.parts c.in_ok-rest.was
    in
    let three : parts 32 c.in_ok-rest.field-0.now ≡ input ∷ parts 32 c.in-Some.rest.now =
    begins_some _ (parts 32 c.in_ok-rest.field-0.now) 32 input c.first_part-2.result.1 c.in-Some.rest c.first_part-2.ensures.parts c.in-Some.is
    in
    let four = begins_more _ (parts 32 c.in-Some.rest.now) 32 word c.first_part-in-Some.result.1 c.first_part-in-Some.ensures.parts (sym c.is_some.ensures ∙ c.if-is_some.true) in
    sym (four_words line process input word four.0
    (two ∙ ap (λ words. process ∷ words) three ∙ ap (λ words. process ∷ input ∷ words) four.1))
