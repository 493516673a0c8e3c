use Rattle.std.proofs.Common.{map, take}
use Rattle.remarks.specs.RemarkViews.{warned_of}
use Rattle.explain.specs.Observed.{warned_from}
use Rattle.explain.specs.ObservedViews.{AddsObserved}
use Rattle.explain.proofs.warning.add_points.Given as goal

-- what is warned of at the points before is there
abbrev pub invariant-loop-point : goal.invariant-loop-point
invariant-loop-point l = AddsObserved l.fn.list.items l.list.items (warned_from 0 (map warned_of (take l.point l.of_points)))
