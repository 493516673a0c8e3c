use Rattle.std.proofs.Common.{length}
use Rattle.explain.proofs.warning.+add_numbers.Given as goal

abbrev pub decreases-add_numbers : goal.decreases-add_numbers
decreases-add_numbers l = length l.numbers.now
