use Rattle.std.proofs.Common.{◌≡◌, true, [], ◌∷◌, ◌++◌, ap, sym, ◌∙◌, subst}
use Rattle.rights.specs.Sets.{all_commands, is_within}
use Rattle.rights.proofs.Subsets.{is_within-trans}
use Rattle.texts.specs.Hex.{hex_text}
use Rattle.certificate.specs.Views.{held_of, version_of}
use Rattle.certificate_text.specs.Spaced.{spaced}
use Rattle.certificate_text.specs.Texts.{further_word, if_further, plain_word, target_words}
use Rattle.certificate_text.proofs.Spaced.{added-four}
use Rattle.certificate_text.proofs.line_texts.push_held.Goals as goal

pub push_commands-requires-clause-known : goal.push_commands-requires-clause-known
push_commands-requires-clause-known c =
    let fcntls = c.fcntls-fcntls.result in
    subst (λ f. is_within f all_commands ≡ true) (sym (ap (λ f. f.0) c.least-2.ensures)) (is_within-trans fcntls.least.0 fcntls.greatest.0 all_commands fcntls.nested fcntls.known)

pub returns-clause-words : goal.returns-clause-words
returns-clause-words c =
    let held = held_of c.args.held.now in
    let version = version_of c.args.version in
    let told_least : c.rights-rights.result.least.0 ≡ held.least = ap (λ range. range.least.0) c.rights-rights.ensures in
    let told_greatest : c.rights-rights.result.greatest.0 ≡ held.greatest = ap (λ range. range.greatest.0) c.rights-rights.ensures in
    let least : c.least.result.0 ≡ held.least = ap (λ set. set.0) c.least.ensures ∙ told_least in
    let greatest : c.greatest.result.0 ≡ held.greatest = ap (λ set. set.0) c.greatest.ensures ∙ told_greatest in
    let least_fcntls : c.least-2.result.0 ≡ held.least_fcntls = ap (λ set. set.0) c.least-2.ensures ∙ ap (λ range. range.least.0) c.fcntls-fcntls.ensures in
    let greatest_fcntls : c.greatest-2.result.0 ≡ held.greatest_fcntls = ap (λ set. set.0) c.greatest-2.ensures ∙ ap (λ range. range.greatest.0) c.fcntls-fcntls.ensures in
    added-four c.args.room.now (target_words held.target) (plain_word held.least) (plain_word held.greatest) (hex_text 1 held.least_fcntls) (hex_text 1 held.greatest_fcntls)
    (if_further version (further_word held.least ∷ further_word held.greatest ∷ []))
    c.push_target.new.room c.push_plain.new.room c.push_plain-2.new.room c.push_commands.new.room c.push_commands-2.new.room c.push_told.new.room
    (c.push_target.ensures.words ∙ ap (λ target. c.args.room.now ++ spaced (target_words target)) c.target.ensures)
    (c.push_plain.ensures.rights ∙ ap (λ set. c.push_target.new.room ++ 32 ∷ plain_word set) least)
    (c.push_plain-2.ensures.rights ∙ ap (λ set. c.push_plain.new.room ++ 32 ∷ plain_word set) greatest)
    (c.push_commands.ensures.commands ∙ ap (λ set. c.push_plain-2.new.room ++ 32 ∷ hex_text 1 set) least_fcntls)
    (c.push_commands-2.ensures.commands ∙ ap (λ set. c.push_commands.new.room ++ 32 ∷ hex_text 1 set) greatest_fcntls)
    (c.push_told.ensures.words
    ∙ (λ i. c.push_commands-2.new.room ++ spaced (if_further version (further_word (told_least i) ∷ further_word (told_greatest i) ∷ []))))
