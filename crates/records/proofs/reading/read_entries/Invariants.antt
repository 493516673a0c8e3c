use Rattle.std.proofs.Common.{◌≡◌, ◌+◌, ◌<◌, ◌^◌, [], length}
use Rattle.records.specs.EntryViews.{calls_seen}
use Rattle.records.specs.Readings.{calls_after}
use Rattle.records.proofs.reading.read_entries.Given as goal

-- the lines that are left decide it
abbrev pub invariant-loop-line : goal.invariant-loop-line
invariant-loop-line l = record {
  more : (goal.iterator-loop-line).can_next l.lines × (goal.iterator-loop-line).is_finite l.lines;
  few : l.number + length l.lines < 2 ^ 64;
  leads : calls_after l.lines l.number (calls_seen l.entries.items) ≡ calls_after l.fn.lines 1 [];
}
