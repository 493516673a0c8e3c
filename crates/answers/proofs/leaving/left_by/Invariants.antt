use Rattle.std.proofs.Common.{◌≡◌, ◌+◌, ◌≤◌, drop}
use Rattle.std.specs.Prelude.{count_by}
use Rattle.answers.specs.Planned.{is_left_after}
use Rattle.records.specs.EntryViews.{calls_seen}
use Rattle.answers.proofs.leaving.left_by.Given as goal

-- the count so far, and that of the entries that are left
abbrev pub invariant-loop-entry : goal.invariant-loop-entry
invariant-loop-entry l = record {
  few : l.count ≤ l.entry-index;
  leads : l.count + count_by (is_left_after l.line l.process) (calls_seen (drop l.entry-index l.entries))
      ≡ count_by (is_left_after l.line l.process) (calls_seen l.entries);
}
