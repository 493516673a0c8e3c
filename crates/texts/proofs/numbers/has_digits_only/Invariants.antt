use Rattle.std.proofs.Common.{◌≡◌, drop}
use Rattle.std.specs.List.{list_all}
use Rattle.texts.specs.Bytes.{is_digit}
use Rattle.texts.proofs.numbers.has_digits_only.Given as goal

-- what is left decides it
abbrev pub invariant-loop-byte : goal.invariant-loop-byte
invariant-loop-byte l = list_all is_digit (drop l.byte-index l.word) ≡ list_all is_digit l.word
