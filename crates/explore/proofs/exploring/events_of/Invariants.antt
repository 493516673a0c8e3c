use Rattle.std.proofs.Common.{◌≡◌, map, take}
use Rattle.syscalls.specs.Views.{event_of}
use Rattle.explore.specs.MoveViews.{event_at}
use Rattle.explore.proofs.exploring.events_of.Given as goal

-- the events of the moves so far
abbrev pub invariant-loop-next : goal.invariant-loop-next
invariant-loop-next l = map event_of l.events.items ≡ map event_at (take l.next-index l.moves)
