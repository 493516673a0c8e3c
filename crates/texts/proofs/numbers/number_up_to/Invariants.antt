use Rattle.std.proofs.Common.{◌≡◌, ◌≤◌, drop}
use Rattle.std.specs.Prelude.{true}
use Rattle.std.specs.List.{list_all}
use Rattle.texts.specs.Bytes.{is_digit}
use Rattle.texts.specs.Numbers.{value_from}
use Rattle.texts.proofs.numbers.number_up_to.Given as goal

-- the number so far, and then the digits that are left
abbrev pub invariant-loop-byte : goal.invariant-loop-byte
invariant-loop-byte l = record {
  small : l.number ≤ l.limit;
  digits : list_all is_digit (drop l.byte-index l.word) ≡ true;
  read : value_from l.number (drop l.byte-index l.word) ≡ value_from 0 l.word;
}
