use Rattle.std.proofs.Common.{◌≡◌, map}
use Rattle.std.specs.List.{range_with_len}
use Rattle.instruction_set.specs.Views.{code_of}
use Rattle.remarks.specs.Marked.{is_mixed_at}
use Rattle.remarks.specs.RemarkViews.{bounds_of}
use Rattle.remarks.proofs.bounded.Bounded.mixed_points.Given as goal

-- the flags of the points before are there
abbrev pub invariant-loop-point : goal.invariant-loop-point
invariant-loop-point l = l.mixed.items ≡ map (is_mixed_at (code_of l.self.code.now) (bounds_of l.self.bounds.items)) (range_with_len 0 l.point)
