use Rattle.std.proofs.Common.{◌≡◌, ◌++◌, drop}
use Rattle.records.specs.EntryViews.{calls_seen}
use Rattle.records.specs.Runs.{forked_by}
use Rattle.records.proofs.joined_runs.forked_by.Given as goal

-- those so far, and those of the rest, are those of all
abbrev pub invariant-loop-entry : goal.invariant-loop-entry
invariant-loop-entry l = l.forked.items ++ forked_by (calls_seen (drop l.entry-index l.entries)) ≡ forked_by (calls_seen l.entries)
