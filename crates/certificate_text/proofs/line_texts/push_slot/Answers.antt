use Rattle.std.proofs.Common.{◌∷◌, ◌++◌, [], ap, decimal, ◌∙◌}
use Rattle.certificate.specs.Views.{slot_of, version_of}
use Rattle.certificate_text.specs.Texts.{slot_words}
use Rattle.certificate_text.proofs.Spaced.{added-words}
use Rattle.certificate_text.proofs.line_texts.push_slot.Goals as goal

pub returns-clause-line : goal.returns-clause-line
returns-clause-line c =
    added-words c.args.room.now (102 ∷ 100 ∷ []) (decimal c.args.number) (slot_words (version_of c.args.version) (slot_of c.args.slot.now))
    c.push.new.self c.push_number.new.room c.push_presence.new.room
    c.push.ensures
    (c.push_number.ensures.number ∙ ap (λ n. c.push.new.self ++ 32 ∷ decimal n) c.from.ensures)
    c.push_presence.ensures.words
