use Rattle.std.proofs.Common.{All}
use Rattle.page.specs.WireViews.{IsWire}
use Rattle.page.proofs.wiring.wires_of.Given as goal

abbrev pub invariant-loop-at : goal.invariant-loop-at
invariant-loop-at l = All (IsWire l.initial.ways) l.wires.items
