use Rattle.std.proofs.Common.{◌≡◌, drop}
use Rattle.std.specs.List.{list_all}
use Rattle.texts.specs.Hex.{is_hex_digit}
use Rattle.texts.proofs.hex.has_hex_digits_only.Given as goal

-- what is left decides it
abbrev pub invariant-loop-byte : goal.invariant-loop-byte
invariant-loop-byte l = list_all is_hex_digit (drop l.byte-index l.word) ≡ list_all is_hex_digit l.word
