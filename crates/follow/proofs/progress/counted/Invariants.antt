use Rattle.std.proofs.Common.{◌≡◌, drop}
use Rattle.std.specs.Prelude.{◌++◌}
use Rattle.std.specs.List.{flat_map}
use Rattle.records.specs.EntryViews.{calls_seen}
use Rattle.follow.specs.Progress.{kept}
use Rattle.follow.specs.Views.{entries_after}
use Rattle.follow.proofs.progress.counted.Given as goal

-- what was found, and then what is left
abbrev pub invariant-loop-entry : goal.invariant-loop-entry
invariant-loop-entry l = entries_after l.left.items ++ flat_map kept (calls_seen (drop l.entry-index l.entries)) ≡ flat_map kept (calls_seen l.entries)
