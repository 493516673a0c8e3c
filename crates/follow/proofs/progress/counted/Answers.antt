use Rattle.std.proofs.Common.{◌≡◌, ◌+◌, ◌∷◌, ◌++◌, drop, ap, sym, subst, ◌∙◌}
use Rattle.std.specs.List.{flat_map}
use Rattle.records.specs.declared.entries.Entry.{Entry as EntryCode}
use Rattle.records.specs.Calls.{RecordedCalls}
use Rattle.records.specs.EntryViews.{calls_seen, record_entry_seen}
use Rattle.simulator.proofs.Splitting.{map-drop}
use Rattle.follow.specs.Progress.{kept}
use Rattle.follow.specs.Views.{entries_after}
use Rattle.follow.proofs.Entries.{kept-more}
use Rattle.follow.proofs.progress.counted.Goals as goal

pub loop-entry-preserved : goal.loop-entry-preserved
loop-entry-preserved c =
    let e : EntryCode = c.entry-item.result in
    let left : RecordedCalls = calls_seen (drop (c.loop-entry.entry-index + 1) c.args.entries.now) in
    let split : calls_seen (drop c.loop-entry.entry-index c.args.entries.now) ≡ record_entry_seen e ∷ left =
    map-drop record_entry_seen c.args.entries.now c.loop-entry.entry-index e c.loop-entry-test.true ∙ ap (λ (f : EntryCode). record_entry_seen f ∷ left) (sym c.entry-item.is)
    in
    kept-more (entries_after c.loop-entry.left.items) (entries_after c.add_counted.new.left.items) (record_entry_seen e) left (flat_map kept (calls_seen c.args.entries.now))
    c.in_ok-add_counted.ensures
    (subst (λ (es : RecordedCalls). entries_after c.loop-entry.left.items ++ flat_map kept es ≡ flat_map kept (calls_seen c.args.entries.now)) split c.loop-entry.invariant)
