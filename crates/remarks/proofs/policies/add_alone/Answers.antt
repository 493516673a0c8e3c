use Rattle.std.proofs.Common.{◌≡◌, ◌∙◌, ◌++◌, ℕ, List, map, subst}
use Rattle.std.specs.Prelude.{OnOk}
use Rattle.rights.specs.Views.{side_seen}
use Rattle.remarks.specs.RemarkViews.{task_remark_of}
use Rattle.remarks.specs.TaskRemarks.{Alone}
use Rattle.remarks.proofs.policies.add_alone.Goals as goal

pub returns : goal.returns
returns c =
    subst (λ (pairs : List ℕ). OnOk c.add_pairs.result
    (map task_remark_of c.add_pairs.new.list.items ≡ map task_remark_of c.args.list.now.items ++ map (λ pair. Alone pair (side_seen c.args.side)) pairs))
    (c.deref.ensures.value ∙ c.in_ok-pairs.ensures) c.add_pairs.ensures
