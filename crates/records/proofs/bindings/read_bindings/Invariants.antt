use Rattle.std.proofs.Common.{◌≡◌, map, [], length}
use Rattle.records.specs.BindingViews.{awaited_seen}
use Rattle.records.specs.EntryViews.{binding_seen}
use Rattle.records.specs.Readings.{Next, bindings_from}
use Rattle.records.proofs.bindings.read_bindings.Given as goal

-- what is left decides it
abbrev pub invariant-loop-word : goal.invariant-loop-word
invariant-loop-word l = bindings_from l.words (map binding_seen l.bindings.items) (awaited_seen l.awaited) ≡ bindings_from l.fn.words [] Next

abbrev pub decreases-loop-word : goal.decreases-loop-word
decreases-loop-word l = length l.words
