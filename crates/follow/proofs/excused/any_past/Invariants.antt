use Rattle.std.proofs.Common.{◌≡◌, drop, map}
use Rattle.std.specs.List.{list_any}
use Rattle.records.specs.OperandViews.{operand_seen}
use Rattle.follow.specs.Excused.{is_past}
use Rattle.follow.specs.Views.{placings_of}
use Rattle.follow.proofs.excused.any_past.Given as goal

-- none of those before is
abbrev pub invariant-loop-operand : goal.invariant-loop-operand
invariant-loop-operand l =
    list_any (is_past (placings_of l.placings)) (map operand_seen (drop l.operand-index l.operands))
    ≡ list_any (is_past (placings_of l.placings)) (map operand_seen l.operands)
