-- A line of four words or more is no event.
use Rattle.std.proofs.Common.{◌≡◌, ℕ, Bool, true, false, List, [], ◌∷◌, refl, ap, ◌∙◌}
use Rattle.std.specs.Prelude.{None, cond, ◌==◌, ◌++◌}
use Rattle.texts.specs.Parts.{parts, parts_from}
use Rattle.simulator.specs.Schedules.{event_of_words, event_of_line}

four_from : (process input word : List ℕ) (text begun : List ℕ) → event_of_words (process ∷ input ∷ word ∷ parts_from 32 text begun) ≡ None
four_from process input word [] begun = refl
four_from process input word (b ∷ text) begun = go (b == 32) (four_from process input word text (begun ++ b ∷ []))
  where
    go : (blank : Bool) → event_of_words (process ∷ input ∷ word ∷ parts_from 32 text (begun ++ b ∷ [])) ≡ None →
        event_of_words (process ∷ input ∷ word ∷ cond blank (begun ∷ parts_from 32 text []) (parts_from 32 text (begun ++ b ∷ []))) ≡ None
    go true rest = refl
    go false rest = rest

pub four_words : (line process input word rest : List ℕ) → parts 32 line ≡ process ∷ input ∷ word ∷ parts 32 rest → event_of_line line ≡ None
four_words line process input word rest is = ap event_of_words is ∙ four_from process input word rest []
