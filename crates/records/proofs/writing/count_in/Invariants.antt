use Rattle.std.proofs.Common.{◌≡◌, ◌+◌, ◌≤◌, drop}
use Rattle.std.specs.Prelude.{count_by}
use Rattle.records.specs.CountViews.{is_of_count}
use Rattle.records.specs.EntryViews.{calls_seen}
use Rattle.records.proofs.writing.count_in.Given as goal

-- the count so far, and that of the entries that are left
abbrev pub invariant-loop-entry : goal.invariant-loop-entry
invariant-loop-entry l = record {
  few : l.count ≤ l.entry-index;
  leads : l.count + count_by (λ entry. is_of_count l.counted entry.event) (calls_seen (drop l.entry-index l.entries))
      ≡ count_by (λ entry. is_of_count l.counted entry.event) (calls_seen l.entries);
}
