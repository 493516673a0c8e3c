use Rattle.std.proofs.Common.{◌≡◌, drop, map}
use Rattle.std.specs.Prelude.{is_some, string_bytes}
use Rattle.std.specs.List.{list_all}
use Rattle.answers.specs.PlacingWords.{placing_in}
use Rattle.answers.proofs.placing_words.are_placings.Given as goal

-- all words so far are REAL=MODEL
abbrev pub invariant-loop-word : goal.invariant-loop-word
invariant-loop-word l =
    list_all (λ word. is_some (placing_in word)) (map string_bytes (drop l.word-index l.words)) ≡ list_all (λ word. is_some (placing_in word)) (map string_bytes l.words)
