use Rattle.std.proofs.Common.{◌≡◌, false, ◌++◌, drop}
use Rattle.std.specs.List.{flat_map}
use Rattle.records.specs.EntryViews.{calls_seen}
use Rattle.records.specs.Texts.{line_with_feed, entry_text}
use Rattle.records.proofs.writing.add_entries.Given as goal

-- with the entries that are left it is the whole text
abbrev pub invariant-loop-entry : goal.invariant-loop-entry
invariant-loop-entry l = record {
  keeps : l.page.is_short ≡ false → l.fn.page.is_short ≡ false;
  adds : l.page.is_short ≡ false → l.page.bytes.items ++ flat_map (λ entry. line_with_feed (entry_text entry)) (calls_seen (drop l.entry-index l.entries))
      ≡ l.fn.page.bytes.items ++ flat_map (λ entry. line_with_feed (entry_text entry)) (calls_seen l.entries);
}
