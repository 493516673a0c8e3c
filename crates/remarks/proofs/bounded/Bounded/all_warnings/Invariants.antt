use Rattle.std.proofs.Common.{◌≡◌, map}
use Rattle.std.specs.List.{range_with_len}
use Rattle.instruction_set.specs.Views.{code_of}
use Rattle.remarks.specs.RemarkViews.{bounds_of, warned_of}
use Rattle.remarks.specs.Warnings.{warned_at}
use Rattle.remarks.proofs.bounded.Bounded.all_warnings.Given as goal

-- what is warned of at the points before is there
abbrev pub invariant-loop-point : goal.invariant-loop-point
invariant-loop-point l =
    map warned_of l.list.items
    ≡ map (warned_at l.task l.self.name.now (code_of l.self.code.now) (bounds_of l.self.bounds.items) l.self.untrusted) (range_with_len 0 l.point)
