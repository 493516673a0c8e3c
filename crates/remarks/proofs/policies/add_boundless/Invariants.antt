use Rattle.std.proofs.Common.{◌≡◌, ◌++◌, map, take}
use Rattle.task.specs.Views.{grants_of}
use Rattle.remarks.specs.RemarkViews.{task_remark_of}
use Rattle.remarks.specs.TaskRemarks.{boundless}
use Rattle.remarks.proofs.policies.add_boundless.Given as goal

-- of the grants so far those that hold the whole tree are there
abbrev pub invariant-loop-grant : goal.invariant-loop-grant
invariant-loop-grant l =
    map task_remark_of l.list.items ≡ map task_remark_of l.fn.list.items ++ boundless (grants_of (take l.grant-index l.grants))
