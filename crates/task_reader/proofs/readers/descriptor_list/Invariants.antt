use Rattle.std.proofs.Common.{◌≡◌, ◌++◌, map, drop, option_map}
use Rattle.toml.specs.View.{items_view}
use Rattle.task_reader.specs.Documents.{each_item}
use Rattle.task_reader.specs.Written.{written_descriptor}
use Rattle.task_reader.specs.WrittenViews.{descriptor_seen}
use Rattle.task_reader.proofs.readers.descriptor_list.Given as goal

-- what was read so far, and then what is left
abbrev pub invariant-loop-value : goal.invariant-loop-value
invariant-loop-value l =
    each_item (written_descriptor l.further) (items_view l.values)
    ≡ option_map (λ rest. map descriptor_seen l.descriptors.items ++ rest) (each_item (written_descriptor l.further) (items_view (drop l.value-index l.values)))
