use Rattle.std.proofs.Common.{◌≡◌, length}
use Rattle.page.proofs.frames.letters_of.Given as goal

abbrev pub invariant-loop-at : goal.invariant-loop-at
invariant-loop-at l = length l.letters.items ≡ l.at
