use Rattle.std.specs.List.{flat_map, range_with_len}
use Rattle.instruction_set.specs.Views.{code_of}
use Rattle.remarks.specs.Listed.{limits_at}
use Rattle.remarks.specs.RemarkViews.{AddsRemarks, bounds_of}
use Rattle.remarks.proofs.bounded.Bounded.add_limits.Given as goal

-- those of the points before are there
abbrev pub invariant-loop-point : goal.invariant-loop-point
invariant-loop-point l =
    AddsRemarks l.fn.list.items l.list.items
    (flat_map (limits_at (code_of l.self.code.now) (bounds_of l.self.bounds.items) l.number l.unnamed) (range_with_len 0 l.point))
