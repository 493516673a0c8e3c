use Rattle.std.proofs.Common.{◌≡◌, ℕ, false, get_or, length, take}
use Rattle.std.specs.Prelude.{◌&&◌, ◌||◌, nat_lt}
use Rattle.records.specs.LineAccounts.{is_end_of}
use Rattle.records.specs.EntryViews.{calls_seen}
use Rattle.records.proofs.line_accounts.mark_ends.Given as goal

-- what was marked is, and the ends of the entries before
abbrev pub invariant-loop-entry : goal.invariant-loop-entry
invariant-loop-entry l =
    (k : ℕ) → get_or l.marks k false ≡ (get_or l.initial.marks k false || (is_end_of k (calls_seen (take l.entry-index l.entries)) && nat_lt k (length l.initial.marks)))
