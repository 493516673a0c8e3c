use Rattle.std.specs.List.{flat_map, range_with_len}
use Rattle.instruction_set.specs.Views.{code_of}
use Rattle.remarks.specs.Listed.{numbers, on_numbers}
use Rattle.remarks.specs.RemarkViews.{AddsRemarks, bounds_of}
use Rattle.remarks.proofs.bounded.Bounded.add_pairs.Given as goal

-- those of the numbers before are there
abbrev pub invariant-loop-number : goal.invariant-loop-number
invariant-loop-number l =
    AddsRemarks l.fn.list.items l.list.items
    (flat_map (λ n. flat_map (on_numbers (code_of l.self.code.now) (bounds_of l.self.bounds.items) n) numbers) (range_with_len 0 l.number))
