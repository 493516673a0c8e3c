use Rattle.std.proofs.Common.{◌≡◌, drop, map, string_bytes}
use Rattle.std.specs.List.{list_any}
use Rattle.command_line.specs.Orders.{is_dashed}
use Rattle.command_line.proofs.reading.has_dashed.Given as goal

abbrev pub invariant-loop-word : goal.invariant-loop-word
invariant-loop-word l =
    list_any is_dashed (map string_bytes (drop l.word-index l.words)) ≡ list_any is_dashed (map string_bytes l.words)
