use Rattle.std.proofs.Common.{ap}
use Rattle.records.specs.EntryViews.{calls_seen}
use Rattle.answers.proofs.Recorded.{said}
use Rattle.answers.proofs.recording.answer_calls.Goals as goal

pub returns : goal.returns
returns c =
    let recorded = c.in_ok-recorded.recorded in
    said c.args.text.now c.status_of.result (calls_seen recorded.entries.items) _ _ recorded.misread.items _ recorded.silent.items c.in_ok-calls.calls.items
    c.in_ok-recorded.ensures.within c.in_ok-recorded.ensures.others c.in_ok-recorded.ensures.quiet c.in_ok-calls.ensures (ap calls_seen c.deref-2.ensures.value)
    (ap calls_seen c.deref-3.ensures.value) c.deref-4.ensures.value c.status_of.ensures.says
