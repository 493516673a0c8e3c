use Rattle.std.proofs.Common.{◌≡◌, map}
use Rattle.std.specs.List.{range_with_len}
use Rattle.certificate.specs.Bounds.{bound_at}
use Rattle.remarks.specs.RemarkViews.{bounds_of}
use Rattle.remarks.proofs.remarks.bounds_of.Given as goal

-- those of the points before are there
abbrev pub invariant-loop-point : goal.invariant-loop-point
invariant-loop-point l = bounds_of l.bounds.items ≡ map (bound_at l.cert l.name) (range_with_len 0 l.point)
