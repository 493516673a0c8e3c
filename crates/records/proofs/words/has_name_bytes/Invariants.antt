use Rattle.std.proofs.Common.{◌≡◌, drop}
use Rattle.std.specs.List.{list_all}
use Rattle.records.specs.Calls.{is_call_name_byte}
use Rattle.records.proofs.words.has_name_bytes.Given as goal

-- what is left decides it
abbrev pub invariant-loop-byte : goal.invariant-loop-byte
invariant-loop-byte l = list_all is_call_name_byte (drop l.byte-index l.word) ≡ list_all is_call_name_byte l.word
