use Rattle.std.proofs.Common.{◌++◌, ◌∙◌, ap}
use Rattle.std.specs.List.{flat_map}
use Rattle.records.specs.Beginnings.{children_of}
use Rattle.records.specs.Calls.{RecordEntry}
use Rattle.records.specs.declared.entries.Entry.{Entry as EntryCode}
use Rattle.records.specs.EntryViews.{calls_seen, event_seen, record_entry_seen}
use Rattle.records.proofs.LoopLaws.{item-written}
use Rattle.records.proofs.beginnings.children_of.Goals as goal

pub loop-entry-preserved : goal.loop-entry-preserved
loop-entry-preserved c =
    item-written (λ (entry : RecordEntry). children_of entry.event) record_entry_seen c.args.entries.now c.loop-entry.entry-index c.entry-item.result
    c.loop-entry.made.items c.add_child.new.made.items
    (flat_map (λ (entry : RecordEntry). children_of entry.event) (calls_seen c.args.entries.now)) c.loop-entry-test.true c.loop-entry.invariant
    (c.in_ok-add_child.ensures ∙ ap (λ (e : EntryCode). c.loop-entry.made.items ++ children_of (event_seen e.event)) c.entry-item.is)
