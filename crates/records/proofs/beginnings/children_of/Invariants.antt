use Rattle.std.proofs.Common.{◌≡◌, ◌++◌, drop}
use Rattle.std.specs.List.{flat_map}
use Rattle.records.specs.Beginnings.{children_of}
use Rattle.records.specs.Calls.{RecordEntry}
use Rattle.records.specs.EntryViews.{calls_seen}
use Rattle.records.proofs.beginnings.children_of.Given as goal

-- the processes so far, and those that the entries make which are left
abbrev pub invariant-loop-entry : goal.invariant-loop-entry
invariant-loop-entry l =
    l.made.items ++ flat_map (λ (entry : RecordEntry). children_of entry.event) (calls_seen (drop l.entry-index l.entries))
    ≡ flat_map (λ (entry : RecordEntry). children_of entry.event) (calls_seen l.entries)
