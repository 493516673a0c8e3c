use Rattle.std.proofs.Common.{◌≡◌, ◌<◌, ◌^◌, drop}
use Rattle.std.specs.Prelude.{true}
use Rattle.std.specs.List.{list_all}
use Rattle.texts.specs.Hex.{hex_from, is_hex_digit}
use Rattle.texts.proofs.hex.read_hex.Given as goal

-- the number so far, and then the digits that are left
abbrev pub invariant-loop-byte : goal.invariant-loop-byte
invariant-loop-byte l = record {
  small : l.number < 16 ^ l.byte-index;
  digits : list_all is_hex_digit (drop l.byte-index l.word) ≡ true;
  read : hex_from l.number (drop l.byte-index l.word) ≡ hex_from 0 l.word;
}
