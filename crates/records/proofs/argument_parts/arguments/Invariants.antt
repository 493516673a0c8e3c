use Rattle.std.proofs.Common.{◌≡◌, ◌++◌, length}
use Rattle.std.specs.List.{flat_map}
use Rattle.records.proofs.PartLaws.{part_text}
use Rattle.records.proofs.argument_parts.arguments.Given as goal

-- the parts, each with its comma, and what is left are the text
abbrev pub invariant-loop-at : goal.invariant-loop-at
invariant-loop-at l = flat_map part_text l.parts.items ++ l.rest ≡ l.text

abbrev pub decreases-loop-at : goal.decreases-loop-at
decreases-loop-at l = length l.rest
