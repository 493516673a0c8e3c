use Rattle.std.proofs.Common.{◌≡◌, ◌<◌, ◌^◌, ℕ, false, true, get_or, length}
use Rattle.std.specs.Prelude.{◌&&◌}
use Rattle.std.proofs.Math.Bool.{not}
use Rattle.records.specs.LineAccounts.{are_quiet, is_in_lists, is_line_of}
use Rattle.records.specs.LineViews.{texts_told}
use Rattle.records.proofs.line_accounts.accounts_of.Given as goal

-- the lists have the lines before that aren't marked, and those that are said to be silent are quiet
abbrev pub invariant-loop-index : goal.invariant-loop-index
invariant-loop-index l =
    length l.lines < 2 ^ 32 → ((line : ℕ) → is_in_lists line l.accounts.misread.items l.accounts.silent.items ≡ (is_line_of l.index line && not (get_or l.marks line false)))
    × (are_quiet (texts_told l.lines) l.accounts.silent.items ≡ true)
