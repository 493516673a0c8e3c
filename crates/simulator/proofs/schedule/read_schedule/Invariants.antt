use Rattle.std.proofs.Common.{◌+◌, ◌≤◌, length, map}
use Rattle.syscalls.specs.Views.{event_of}
use Rattle.simulator.proofs.LinesRead.{ReadSoFar}
use Rattle.simulator.proofs.schedule.read_schedule.Given as goal

-- so much is read, and the events can be counted
abbrev pub invariant-loop-rest : goal.invariant-loop-rest
invariant-loop-rest l = record {
  read : ReadSoFar l.bytes l.rest (map event_of l.events.items) l.count;
  within : l.count + length l.rest ≤ length l.bytes;
}

abbrev pub decreases-loop-rest : goal.decreases-loop-rest
decreases-loop-rest l = length l.rest
