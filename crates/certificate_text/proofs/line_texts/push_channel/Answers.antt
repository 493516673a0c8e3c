use Rattle.std.proofs.Common.{ℕ, List, [], ◌∷◌, ◌++◌, ap, sym, ◌∙◌}
use Rattle.std.specs.Prelude.{option_map}
use Rattle.certificate.specs.Views.{channel_of, held_of, version_of}
use Rattle.texts.specs.Parts.{joined}
use Rattle.certificate_text.specs.Spaced.{spaced}
use Rattle.certificate_text.specs.Texts.{class_word, held_words, sends_words, side_word}
use Rattle.certificate_text.proofs.Spaced.{added-lists}
use Rattle.certificate_text.proofs.line_texts.push_channel.Goals as goal

pub returns-in-Some-clause-line : goal.returns-in-Some-clause-line
returns-in-Some-clause-line c =
    let version = version_of c.args.version in
    let channel = channel_of c.args.channel.now in
    let chan : List ℕ = 99 ∷ 104 ∷ 97 ∷ 110 ∷ [] in
    let ends : List (List ℕ) = class_word channel.class ∷ side_word channel.side ∷ [] in
    let class_and_side = c.push_end.ensures.words ∙ (λ i. c.push.new.self ++ spaced (class_word (c.class.ensures i) ∷ side_word (c.side.ensures i) ∷ [])) in
    let sends = sym (ap (option_map held_of) c.in-Some.is) ∙ c.sends.ensures in
    added-lists c.args.room.now chan ends (held_words version (held_of c.in-Some.held)) c.push.new.self c.push_end.new.room c.push_held.new.room
    c.push.ensures class_and_side c.push_held.ensures.words
    ∙ ap (λ given. c.args.room.now ++ joined 32 (chan ∷ class_word channel.class ∷ side_word channel.side ∷ sends_words version given)) sends
