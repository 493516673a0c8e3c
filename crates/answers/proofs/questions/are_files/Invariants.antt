use Rattle.std.proofs.Common.{◌≡◌, drop, map}
use Rattle.std.specs.Prelude.{string_bytes}
use Rattle.answers.specs.Questions.{are_files}
use Rattle.answers.proofs.questions.are_files.Given as goal

-- what is left decides
abbrev pub invariant-loop-word : goal.invariant-loop-word
invariant-loop-word l = are_files (map string_bytes (drop l.word-index l.words)) ≡ are_files (map string_bytes l.words)
