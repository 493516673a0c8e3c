use Rattle.std.proofs.Common.{◌≡◌, map}
use Rattle.toml.specs.View.{members_view}
use Rattle.task_reader.specs.Documents.{only_keys}
use Rattle.task_reader.proofs.documents.has_only.Given as goal

-- the keys that are left decide it
abbrev pub invariant-loop-key : goal.invariant-loop-key
invariant-loop-key l =
    (goal.iterator-loop-key).can_next l.key-iterator
    × (goal.iterator-loop-key).is_finite l.key-iterator
    × (only_keys (map (λ k. k.now) l.keys) (members_view l.key-iterator) ≡ only_keys (map (λ k. k.now) l.keys) (members_view l.table.entries))
