use Rattle.std.proofs.Common.{◌≡◌, map, drop}
use Rattle.std.specs.List.{list_all}
use Rattle.task_reader.specs.Written.{is_flag}
use Rattle.task_reader.proofs.words.are_flags.Given as goal

-- what is left decides it
abbrev pub invariant-loop-word : goal.invariant-loop-word
invariant-loop-word l =
    list_all is_flag (map (λ w. w.now) (drop l.word-index l.words)) ≡ list_all is_flag (map (λ w. w.now) l.words)
