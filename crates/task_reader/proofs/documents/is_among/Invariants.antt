use Rattle.std.proofs.Common.{◌≡◌, map, drop}
use Rattle.task_reader.specs.Documents.{is_among}
use Rattle.task_reader.proofs.documents.is_among.Given as goal

-- what is left decides it
abbrev pub invariant-loop-known : goal.invariant-loop-known
invariant-loop-known l =
    is_among l.word (map (λ w. w.now) (drop l.known-index l.words)) ≡ is_among l.word (map (λ w. w.now) l.words)
