use Rattle.texts.proofs.PageLaws.{adds_both}
use Rattle.records.specs.EntryViews.{calls_seen}
use Rattle.records.proofs.TextBack.{calls-back}
use Rattle.records.proofs.writing.write_calls.Goals as goal

pub returns-clause-text : goal.returns-clause-text
returns-clause-text c = adds_both _ _ _ _ _ c.bytes.ensures (adds_both _ _ _ _ _ c.add_entries.ensures (adds_both _ _ _ _ _ c.add_end.ensures c.bytes-2.ensures))

pub returns-clause-reads_back : goal.returns-clause-reads_back
returns-clause-reads_back c = calls-back (calls_seen c.args.entries.now)
