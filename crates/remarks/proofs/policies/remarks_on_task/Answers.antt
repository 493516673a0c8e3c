use Rattle.std.proofs.Common.{◌≡◌, ◌++◌, List, map, subst}
use Rattle.std.specs.Prelude.{IfOk}
use Rattle.task.specs.Plans.{Grant, Start}
use Rattle.task.specs.Views.{grants_of}
use Rattle.remarks.specs.RemarkViews.{task_remark_of}
use Rattle.remarks.specs.TaskRemarks.{boundless, lone_ends}
use Rattle.remarks.proofs.policies.remarks_on_task.Goals as goal

pub returns : goal.returns
returns c =
    subst (λ (grants : List Grant). IfOk c.remarks_on_both.result (λ found. map task_remark_of found.items
    ≡ lone_ends c.args.task.now.starts 0 ++ (lone_ends c.args.task.now.starts 1 ++ boundless grants)))
    c.grants.ensures
    (subst (λ (starts : List Start). IfOk c.remarks_on_both.result (λ found. map task_remark_of found.items
    ≡ lone_ends starts 0 ++ (lone_ends starts 1 ++ boundless (grants_of c.grants.result.now))))
    c.starts.ensures.starts c.remarks_on_both.ensures)
