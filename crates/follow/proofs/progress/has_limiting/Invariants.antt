use Rattle.std.proofs.Common.{◌≡◌, drop}
use Rattle.std.specs.List.{list_any}
use Rattle.records.specs.Calls.{RecordEntry}
use Rattle.records.specs.EntryViews.{calls_seen}
use Rattle.follow.specs.Progress.{is_limiting}
use Rattle.follow.proofs.progress.has_limiting.Given as goal

-- none of those before is
abbrev pub invariant-loop-entry : goal.invariant-loop-entry
invariant-loop-entry l =
    list_any (λ (entry : RecordEntry). is_limiting entry.event) (calls_seen (drop l.entry-index l.entries))
    ≡ list_any (λ (entry : RecordEntry). is_limiting entry.event) (calls_seen l.entries)
