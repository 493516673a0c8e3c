use Rattle.std.proofs.Common.{◌≡◌, ◌++◌, map, take}
use Rattle.rights.specs.Views.{side_seen}
use Rattle.remarks.specs.RemarkViews.{task_remark_of}
use Rattle.remarks.specs.TaskRemarks.{Alone}
use Rattle.remarks.proofs.policies.add_pairs.Given as goal

-- the pairs so far are there
abbrev pub invariant-loop-pair : goal.invariant-loop-pair
invariant-loop-pair l =
    map task_remark_of l.list.items ≡ map task_remark_of l.fn.list.items ++ map (λ pair. Alone pair (side_seen l.side)) (take l.pair-index l.pairs)
