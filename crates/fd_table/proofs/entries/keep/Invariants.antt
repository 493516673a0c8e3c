use Rattle.std.proofs.Common.{◌≡◌, ◌≤◌, length}
use Rattle.std.specs.Prelude.{vec_capacity}
use Rattle.fd_table.specs.EntryViews.{entries_kept}
use Rattle.fd_table.proofs.entries.keep.Given as goal

abbrev pub invariant-loop-at : goal.invariant-loop-at
invariant-loop-at l = (length l.kept.items ≡ l._at) × ((entries_kept l.kept.items ≡ entries_kept l.fn.kept.items) × (256 ≤ vec_capacity l.kept))
