use Rattle.std.specs.List.{flat_map, range_with_len}
use Rattle.instruction_set.specs.Views.{code_of}
use Rattle.remarks.specs.Listed.{on_number}
use Rattle.remarks.specs.RemarkViews.{AddsRemarks, bounds_of}
use Rattle.remarks.proofs.bounded.Bounded.add_of_numbers.Given as goal

-- those of the numbers before are there
abbrev pub invariant-loop-number : goal.invariant-loop-number
invariant-loop-number l =
    AddsRemarks l.fn.list.items l.list.items
    (flat_map (on_number (code_of l.self.code.now) (bounds_of l.self.bounds.items)) (range_with_len 0 l.number))
