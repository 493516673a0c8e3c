use Rattle.std.proofs.Common.{◌≡◌, [], drop}
use Rattle.records.specs.Beginnings.{begun_by}
use Rattle.records.specs.EntryViews.{calls_seen}
use Rattle.records.proofs.beginnings.first_processes.Given as goal

-- the processes so far, and those that begin with the entries that are left
abbrev pub invariant-loop-entry : goal.invariant-loop-entry
invariant-loop-entry l = begun_by l.made.items l.first.items (calls_seen (drop l.entry-index l.entries)) ≡ begun_by l.made.items [] (calls_seen l.entries)
