use Rattle.std.proofs.Common.{◌≡◌, drop}
use Rattle.std.specs.List.{list_all}
use Rattle.records.specs.EntryViews.{record_entry_seen}
use Rattle.follow.specs.Progress.{may_overtake}
use Rattle.follow.specs.Views.{entries_after}
use Rattle.follow.proofs.progress.may_come.Given as goal

-- it may come before those so far
abbrev pub invariant-loop-other : goal.invariant-loop-other
invariant-loop-other l =
    list_all (may_overtake (record_entry_seen l.entry)) (entries_after (drop l.other-index l.others))
    ≡ list_all (may_overtake (record_entry_seen l.entry)) (entries_after l.others)
