use Rattle.std.proofs.Common.{◌++◌, ap, ◌∙◌}
use Rattle.records.specs.EntryViews.{record_entry_seen}
use Rattle.records.specs.Texts.{line_with_feed, entry_text}
use Rattle.records.proofs.LoopLaws.{item-written}
use Rattle.records.proofs.writing.add_entries.Goals as goal

pub loop-entry-preserved : goal.loop-entry-preserved
loop-entry-preserved c = record {
  keeps = λ short. c.loop-entry.invariant.keeps (c.add_line.ensures.keeps short);
  adds = λ short.
      let is = c.entry-item.is in
      item-written (λ entry. line_with_feed (entry_text entry)) record_entry_seen c.args.entries.now c.loop-entry.entry-index c.entry-item.result _ _ _ c.loop-entry-test.true
      (c.loop-entry.invariant.adds (c.add_line.ensures.keeps short)) (c.add_line.ensures.adds short ∙ ap (λ e. c.loop-entry.page.bytes.items ++ line_with_feed (entry_text (record_entry_seen e))) is);
}
