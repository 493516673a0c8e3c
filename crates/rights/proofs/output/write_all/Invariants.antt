use Rattle.std.proofs.Common.{◌≡◌, ◌-◌, ◌≤◌, length, take}
use Rattle.rights.specs.Output.{Took}
use Rattle.rights.proofs.output.write_all.Given as goal

-- so much has been taken, and nothing has failed
abbrev pub invariant-loop-at : goal.invariant-loop-at
invariant-loop-at g l = record {
  within : l.at ≤ length l.bytes;
  sent : Took (g.W.Out.taken l.fn.out) (g.W.Out.taken l.out) (take l.at l.bytes);
  steady : g.W.Out.faults l.out ≡ g.W.Out.faults l.fn.out;
}

abbrev pub decreases-loop-at : goal.decreases-loop-at
decreases-loop-at g l = length l.bytes - l.at
