use Rattle.std.proofs.Common.{◌∙◌, ◌++◌, ap, append_assoc, map}
use Rattle.task.specs.Views.{grants_of, starts_of}
use Rattle.remarks.specs.RemarkViews.{task_remark_of}
use Rattle.remarks.specs.TaskRemarks.{boundless, lone_ends}
use Rattle.remarks.proofs.policies.remarks_on_both.Goals as goal

pub returns : goal.returns
returns c =
    let starts = starts_of c.args.starts.now in
    let first = lone_ends starts 0 in
    let second = lone_ends starts 1 in
    let grants = boundless (grants_of c.args.grants.now) in
    let begun = c.in_ok-add_alone.ensures ∙ ap (λ list. map task_remark_of list ++ first) c.new-list.ensures.items in
    let both = c.in_ok-add_alone-2.ensures ∙ ap (λ list. list ++ second) begun in
    c.in_ok-add_boundless.ensures ∙ ap (λ list. list ++ grants) both ∙ append_assoc first second grants
