use Rattle.std.proofs.Common.{◌≡◌, drop}
use Rattle.records.specs.EntryViews.{calls_seen}
use Rattle.records.specs.Runs.{none_seen, run_from}
use Rattle.records.specs.SeenViews.{seen_of}
use Rattle.records.proofs.joined_runs.another_run.Given as goal

-- from what was seen so far on, the rest gives what all give
abbrev pub invariant-loop-entry : goal.invariant-loop-entry
invariant-loop-entry l = run_from l.forked.items (seen_of l.seen) (calls_seen (drop l.entry-index l.entries)) ≡ run_from l.forked.items none_seen (calls_seen l.entries)
