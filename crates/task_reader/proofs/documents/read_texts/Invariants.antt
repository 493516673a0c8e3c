use Rattle.std.proofs.Common.{◌≡◌, ◌++◌, map, drop, option_map}
use Rattle.toml.specs.Data.{as_str}
use Rattle.toml.specs.View.{items_view}
use Rattle.task_reader.specs.Documents.{each_item}
use Rattle.task_reader.proofs.documents.read_texts.Given as goal

-- the texts so far, and then those that are left
abbrev pub invariant-loop-value : goal.invariant-loop-value
invariant-loop-value l =
    each_item as_str (items_view l.values)
    ≡ option_map (λ rest. map (λ w. w.now) l.texts.items ++ rest) (each_item as_str (items_view (drop l.value-index l.values)))
