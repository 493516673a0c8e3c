use Rattle.std.proofs.Common.{◌≤◌}
use Rattle.records.proofs.argument_values.has_word.Given as goal

-- a word begins where the loop has come to, or before
abbrev pub invariant-loop-at : goal.invariant-loop-at
invariant-loop-at l = l.start ≤ l.at
