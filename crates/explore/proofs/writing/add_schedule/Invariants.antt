use Rattle.std.proofs.Common.{◌≡◌, false, ◌++◌, drop, map}
use Rattle.syscalls.specs.Views.{event_of}
use Rattle.explore.specs.Texts.{schedule_text}
use Rattle.explore.proofs.writing.add_schedule.Given as goal

-- with the events that are left it is the whole text
abbrev pub invariant-loop-event : goal.invariant-loop-event
invariant-loop-event l = record {
  keeps : l.page.is_short ≡ false → l.fn.page.is_short ≡ false;
  adds : l.page.is_short ≡ false → l.page.bytes.items ++ schedule_text (map event_of (drop l.event-index l.events)) ≡ l.fn.page.bytes.items ++ schedule_text (map event_of l.events);
}
