use Rattle.std.proofs.Common.{◌≡◌, false, ◌++◌, map, drop}
use Rattle.std.specs.List.{flat_map}
use Rattle.records.specs.OperandViews.{operand_seen}
use Rattle.records.specs.Texts.{operand_words, after_spaces}
use Rattle.records.proofs.line_texts.add_operands.Given as goal

-- with those that are left it is the whole text
abbrev pub invariant-loop-operand : goal.invariant-loop-operand
invariant-loop-operand l = record {
  keeps : l.page.is_short ≡ false → l.fn.page.is_short ≡ false;
  adds : l.page.is_short ≡ false → l.page.bytes.items ++ after_spaces (flat_map operand_words (map operand_seen (drop l.operand-index l.operands)))
      ≡ l.fn.page.bytes.items ++ after_spaces (flat_map operand_words (map operand_seen l.operands));
}
