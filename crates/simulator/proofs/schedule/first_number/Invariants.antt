use Rattle.std.proofs.Common.{◌≡◌, ◌<◌, take}
use Rattle.std.specs.Prelude.{true}
use Rattle.std.specs.List.{list_all}
use Rattle.texts.specs.Bytes.{is_digit}
use Rattle.texts.specs.Numbers.{value_from}
use Rattle.simulator.proofs.schedule.first_number.Given as goal

-- the digits so far, and what they stand for
abbrev pub invariant-loop-at : goal.invariant-loop-at
invariant-loop-at l = record {
  digits : list_all is_digit (take l.at l.text) ≡ true;
  value : l.number ≡ value_from 0 (take l.at l.text);
  small : l.number < 1000;
}
