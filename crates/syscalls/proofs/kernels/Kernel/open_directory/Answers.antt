use Rattle.std.proofs.Common.{sym, subst, refl, ap, ◌∙◌, []}
use Rattle.std.specs.Prelude.{not}
use Rattle.fd_table.specs.Views.{access_asked}
use Rattle.kernel.specs.Answers.{Same_tree}
use Rattle.syscalls.specs.AnswerViews.{Refuses, world_at}
use Rattle.syscalls.proofs.Finding.{handed_on}
use Rattle.syscalls.proofs.Tests.{passes}
use Rattle.syscalls.proofs.Keeping.{meets, open_succeeds}
use Rattle.syscalls.proofs.kernels.Kernel.open_directory.Goals as goal

pub returns-in_err-number : goal.returns-in_err-number
returns-in_err-number g c = λ s processes e same.
    let w = world_at g.T.Tree.nodes c.args.self processes in
    handed_on c.from_residual.result c.in_err-number.field-0.0 w _ _ c.from_residual.ensures.1
    (subst (Refuses c.in_err-number.field-0.0) (sym (passes _ _ _ _ (ap not (sym c.changes.ensures ∙ c.if-changes.false)))) (c.in_err-number.ensures.passes e.refuse same _))

pub returns : goal.returns
returns g c = λ s processes e same.
    let t = g.T.Tree.nodes c.args.self.tree.now in
    let w = world_at g.T.Tree.nodes c.args.self processes in
    let how = c.args.how.now in
    meets c.value.ensures (open_succeeds w c.args.self.caller.number t _ _ _ _ Same_tree c.in_ok-number.number c.args.n (access_asked how.flags) how.flags.append how.rights.0 how.fcntls.0 []
    (passes _ _ _ _ (ap not (sym c.changes.ensures ∙ c.if-changes.false)) ∙ c.in_ok-number.ensures.passes e.refuse same _) refl refl c.in_ok-open_node.ensures.ok)
