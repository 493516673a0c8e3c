use Rattle.std.proofs.Common.{◌≡◌, length, map}
use Rattle.explore.specs.Attacks.{AreTriedByEach}
use Rattle.explore.specs.DeedViews.{deeds_in}
use Rattle.explore.proofs.attacks.deeds_by_each.Given as goal

-- those of the numbers so far
abbrev pub invariant-loop-number : goal.invariant-loop-number
invariant-loop-number l = record {
  numbers : length l.by_number.items ≡ l.number;
  calls : AreTriedByEach (map deeds_in l.by_number.items);
}
