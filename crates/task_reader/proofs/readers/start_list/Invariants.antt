use Rattle.std.proofs.Common.{◌≡◌, ◌++◌, map, drop, option_map}
use Rattle.toml.specs.View.{items_view}
use Rattle.task_reader.specs.Documents.{each_item}
use Rattle.task_reader.specs.Written.{written_start}
use Rattle.task_reader.specs.WrittenViews.{start_seen}
use Rattle.task_reader.proofs.readers.start_list.Given as goal

-- what was read so far, and then what is left
abbrev pub invariant-loop-value : goal.invariant-loop-value
invariant-loop-value l =
    each_item (written_start l.further (map (λ n. n.now) l.names.keys)) (items_view l.values)
    ≡ option_map (λ rest. map start_seen l.starts.items ++ rest)
    (each_item (written_start l.further (map (λ n. n.now) l.names.keys)) (items_view (drop l.value-index l.values)))
