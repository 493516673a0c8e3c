use Rattle.std.proofs.Common.{drop, map}
use Rattle.task_reader.proofs.OnceLaws.{SoFar}
use Rattle.task_reader.proofs.documents.words_once.Given as goal

-- the words so far are the set, and then come those that are left
abbrev pub invariant-loop-word : goal.invariant-loop-word
invariant-loop-word l = SoFar (map (λ w. w.now) l.words) (map (λ w. w.now) l.set.keys) (map (λ w. w.now) (drop l.word-index l.words))
