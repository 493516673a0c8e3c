use Rattle.std.proofs.Common.{ap, ◌∙◌}
use Rattle.std.specs.Borrow.{Bor}
use Rattle.records.specs.declared.entries.Entry.{Entry as EntryCode}
use Rattle.records.specs.EntryViews.{record_entry_seen}
use Rattle.follow.specs.Views.{entries_after}
use Rattle.follow.proofs.Entries.{remove-map}
use Rattle.follow.proofs.progress.take_out.Goals as goal

pub returns : goal.returns
returns c =
    ap entries_after c.remove.ensures.items ∙ remove-map (λ (r : Bor EntryCode). record_entry_seen r.now) c.args.left.now.items c.args.at
