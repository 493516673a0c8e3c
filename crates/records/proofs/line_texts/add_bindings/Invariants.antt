use Rattle.std.proofs.Common.{◌≡◌, false, ◌++◌, map, drop}
use Rattle.std.specs.List.{flat_map}
use Rattle.records.specs.EntryViews.{binding_seen}
use Rattle.records.specs.Texts.{binding_words, after_spaces}
use Rattle.records.proofs.line_texts.add_bindings.Given as goal

-- with those that are left it is the whole text
abbrev pub invariant-loop-binding : goal.invariant-loop-binding
invariant-loop-binding l = record {
  keeps : l.page.is_short ≡ false → l.fn.page.is_short ≡ false;
  adds : l.page.is_short ≡ false → l.page.bytes.items ++ after_spaces (flat_map binding_words (map binding_seen (drop l.binding-index l.bindings)))
      ≡ l.fn.page.bytes.items ++ after_spaces (flat_map binding_words (map binding_seen l.bindings));
}
