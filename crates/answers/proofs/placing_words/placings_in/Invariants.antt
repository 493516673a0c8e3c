use Rattle.std.proofs.Common.{◌≡◌, ◌++◌, drop, map}
use Rattle.std.specs.Prelude.{string_bytes}
use Rattle.answers.specs.PlacingWords.{placings_in}
use Rattle.follow.specs.Views.{placings_of}
use Rattle.answers.proofs.placing_words.placings_in.Given as goal

-- what the words so far name, and what is left
abbrev pub invariant-loop-word : goal.invariant-loop-word
invariant-loop-word l = placings_of l.placings.items ++ placings_in (map string_bytes (drop l.word-index l.words)) ≡ placings_in (map string_bytes l.words)
