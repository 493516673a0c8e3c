use Rattle.std.proofs.Common.{◌≡◌, ◌++◌, drop, map}
use Rattle.syscalls.specs.Views.{event_of}
use Rattle.follow.specs.Shows.{events_of}
use Rattle.follow.specs.Views.{moves_of}
use Rattle.follow.proofs.witnesses.events_of.Given as goal

-- the events so far, and those of the moves that are left
abbrev pub invariant-loop-step : goal.invariant-loop-step
invariant-loop-step l = map event_of l.events.items ++ events_of (moves_of (drop l.step-index l.moves)) ≡ events_of (moves_of l.moves)
