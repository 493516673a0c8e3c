use Rattle.std.proofs.Common.{◌≡◌}
use Rattle.std.specs.List.{range_with_len}
use Rattle.remarks.proofs.bounded.Bounded.points.Given as goal

-- the points before are there
abbrev pub invariant-loop-point : goal.invariant-loop-point
invariant-loop-point l = l.points.items ≡ range_with_len 0 l.point
