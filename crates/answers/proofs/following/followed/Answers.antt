use Rattle.std.proofs.Common.{ap, map, ◌∙◌}
use Rattle.syscalls.specs.Views.{event_of}
use Rattle.answers.proofs.Writes.{schedule_written}
use Rattle.answers.proofs.following.followed.Goals as goal

pub returns : goal.returns
returns c =
    let short = c.in_ok-done.ensures.whole in
    schedule_written _ _ _ _ _ _ _ _ c.in_ok-done.ensures.status c.new-page.ensures.text (c.add_schedule.ensures.adds (c.say-2.ensures.keeps short))
    (c.say-2.ensures.adds short) c.in_ok-done.ensures.text (ap (map event_of) c.deref.ensures.value ∙ c.in_ok-events.ensures)
