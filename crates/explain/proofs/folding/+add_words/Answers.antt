use Rattle.std.proofs.Common.{◌≡◌, ◌∷◌, [], subst}
use Rattle.std.specs.Prelude.{codes, option_map}
use Rattle.texts.specs.Bytes.{space}
use Rattle.texts.specs.Parts.{Begins, parts}
use Rattle.texts.proofs.PartLaws.{begins_some}
use Rattle.explain.specs.Listing.{breaks, goes_on}
use Rattle.explain.proofs.FoldedLines.{more_words, one_word}
use Rattle.explain.proofs.folding.+add_words.Goals as goal

pub returns-in-None : goal.returns-in-None
returns-in-None t c =
    let line = c.args.text.now in
    let only : parts space line ≡ c.first_part.result.0.now ∷ [] =
    subst (λ o. Begins (parts space line) space c.first_part.result.0.now (option_map (λ rest. rest.now) o)) c.in-None.is c.first_part.ensures.parts
    in
    one_word c.args.page.now c.say.new.page line c.first_part.result.0.now only c.say.ensures

pub returns-then-saturating_add-gt-COLUMNS : goal.returns-then-saturating_add-gt-COLUMNS
returns-then-saturating_add-gt-COLUMNS t c =
    let line = c.args.text.now in
    let rest = c.in-Some.rest.now in
    let word = c.first_part.result.0.now in
    let more : parts space line ≡ word ∷ parts space rest =
    begins_some (λ rest. rest.now) (parts space line) space word c.first_part.result.1 c.in-Some.rest c.first_part.ensures.parts c.in-Some.is
    in
    more_words c.args.page.now c.say.new.page c.say-then-saturating_add-gt-COLUMNS.new.page c.add_words.new.page line word (codes "\n    ") rest
    more (λ text folds. breaks word folds) c.say.ensures c.say-then-saturating_add-gt-COLUMNS.ensures c.add_words.ensures

pub returns-else-saturating_add-gt-COLUMNS : goal.returns-else-saturating_add-gt-COLUMNS
returns-else-saturating_add-gt-COLUMNS t c =
    let line = c.args.text.now in
    let rest = c.in-Some.rest.now in
    let word = c.first_part.result.0.now in
    let more : parts space line ≡ word ∷ parts space rest =
    begins_some (λ rest. rest.now) (parts space line) space word c.first_part.result.1 c.in-Some.rest c.first_part.ensures.parts c.in-Some.is
    in
    more_words c.args.page.now c.say.new.page c.say-else-saturating_add-gt-COLUMNS.new.page c.add_words-else-saturating_add-gt-COLUMNS.new.page line word (codes " ") rest
    more (λ text folds. goes_on word folds) c.say.ensures c.say-else-saturating_add-gt-COLUMNS.ensures c.add_words-else-saturating_add-gt-COLUMNS.ensures
