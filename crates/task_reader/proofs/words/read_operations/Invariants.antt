use Rattle.std.proofs.Common.{◌≡◌, ◌++◌, map, drop, option_map}
use Rattle.rights.specs.Views.{operation_of}
use Rattle.task_reader.specs.Written.{operations_named}
use Rattle.task_reader.proofs.words.read_operations.Given as goal

-- the operations so far, and then those that are left
abbrev pub invariant-loop-word : goal.invariant-loop-word
invariant-loop-word l =
    operations_named (map (λ w. w.now) l.words)
    ≡ option_map (λ rest. map operation_of l.operations.items ++ rest) (operations_named (map (λ w. w.now) (drop l.word-index l.words)))
