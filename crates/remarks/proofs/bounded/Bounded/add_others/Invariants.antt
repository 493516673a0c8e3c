use Rattle.std.specs.List.{flat_map, range_with_len}
use Rattle.instruction_set.specs.Views.{code_of}
use Rattle.remarks.specs.Listed.{on_numbers}
use Rattle.remarks.specs.RemarkViews.{AddsRemarks, bounds_of}
use Rattle.remarks.proofs.bounded.Bounded.add_others.Given as goal

-- those of the others before are there
abbrev pub invariant-loop-other : goal.invariant-loop-other
invariant-loop-other l =
    AddsRemarks l.fn.list.items l.list.items
    (flat_map (on_numbers (code_of l.self.code.now) (bounds_of l.self.bounds.items) l.number) (range_with_len 0 l.other))
