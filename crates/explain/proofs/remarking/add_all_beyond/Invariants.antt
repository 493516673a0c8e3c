use Rattle.std.specs.List.{flat_map, range_with_len}
use Rattle.instruction_set.specs.Views.{code_of}
use Rattle.remarks.specs.RemarkViews.{bounds_of}
use Rattle.task.specs.Views.{grants_of}
use Rattle.explain.specs.Observed.{beyond_by}
use Rattle.explain.specs.ObservedViews.{AddsObserved}
use Rattle.explain.proofs.remarking.add_all_beyond.Given as goal

-- those of the numbers before are there
abbrev pub invariant-loop-number : goal.invariant-loop-number
invariant-loop-number l =
    AddsObserved l.fn.list.items l.list.items
    (flat_map (beyond_by l.wide (grants_of l.grants) (code_of l.code) (bounds_of l.bounds)) (range_with_len 0 l.number))
