use Rattle.std.proofs.Common.{◌≡◌, map, drop}
use Rattle.task_reader.specs.Written.{set_from}
use Rattle.task_reader.proofs.words.set.Given as goal

-- the set so far, and then what is left
abbrev pub invariant-loop-word : goal.invariant-loop-word
invariant-loop-word g l =
    set_from g.F.Flags.table (g.F.Flags.set_of l.set) (map (λ w. w.now) (drop l.word-index l.words))
    ≡ set_from g.F.Flags.table 0 (map (λ w. w.now) l.words)
