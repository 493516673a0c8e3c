use Rattle.std.proofs.Common.{◌≡◌, false, ◌∷◌, ◌++◌, drop}
use Rattle.std.specs.List.{flat_map}
use Rattle.records.specs.Quoted.{byte_text}
use Rattle.records.proofs.quoting.add_quoted.Given as goal

-- with the bytes that are left it is the whole text
abbrev pub invariant-loop-byte : goal.invariant-loop-byte
invariant-loop-byte l = record {
  keeps : l.page.is_short ≡ false → l.fn.page.is_short ≡ false;
  adds : l.page.is_short ≡ false → l.page.bytes.items ++ flat_map byte_text (drop l.byte-index l.bytes) ≡ l.fn.page.bytes.items ++ 34 ∷ flat_map byte_text l.bytes;
}
