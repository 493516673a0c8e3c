use Rattle.std.proofs.Common.{◌≡◌, ◌≤◌, drop}
use Rattle.file_tree.specs.Places.{names_fit}
use Rattle.file_tree.proofs.names.has_short_names.Given as goal

-- what is left decides it
abbrev pub invariant-loop-byte : goal.invariant-loop-byte
invariant-loop-byte l = record {
  within : l.read ≤ 255;
  same : names_fit l.read (drop l.byte-index l.text) ≡ names_fit 0 l.text;
}
