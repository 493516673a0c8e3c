use Rattle.std.proofs.Common.{◌≡◌, ◌<◌, ◌≤◌, ◌^◌, ◌++◌, drop, decimal, length}
use Rattle.texts.proofs.digits.Decimal.new.Given as goal

-- the digits of what is left, and then those that are written
abbrev pub invariant-loop-rest : goal.invariant-loop-rest
invariant-loop-rest l = record {
  whole : length l.digits ≡ 10;
  in_room : l.start ≤ 10;
  some : 0 < l.start;
  fits : l.rest < 10 ^ l.start;
  written : decimal l.rest ++ drop l.start l.digits ≡ decimal l.fn.number;
}

abbrev pub decreases-loop-rest : goal.decreases-loop-rest
decreases-loop-rest l = l.rest
