use Rattle.std.proofs.Common.{◌≡◌, ◌∷◌, ap, sym, ◌∙◌}
use Rattle.texts.specs.Parts.{parts}
use Rattle.texts.proofs.PartLaws.{begins_some, begins_more}
use Rattle.certificate_text.proofs.PointWords.{three_parts}
use Rattle.certificate_text.proofs.words.read_point.Goals as goal

-- a third part
pub returns-then-is_some : goal.returns-then-is_some
returns-then-is_some c =
    let word = c.args.word.now in
    let program = c.first_part.result.0.now in
    let point = c.first_part-2.result.0.now in
    let two : parts 58 word ≡ program ∷ parts 58 c.in-Some.rest.now =
    begins_some _ (parts 58 word) 58 program c.first_part.result.1 c.in-Some.rest c.first_part.ensures.parts c.in-Some.is
    in
    let three = begins_more _ (parts 58 c.in-Some.rest.now) 58 point c.first_part-2.result.1 c.first_part-2.ensures.parts (sym c.is_some.ensures ∙ c.if-is_some.true) in
    sym (three_parts word program point three.0 (two ∙ ap (λ parts. program ∷ parts) three.1))
