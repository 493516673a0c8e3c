use Rattle.std.proofs.Common.{map, sym, ap, ◌∙◌}
use Rattle.file_tree.specs.Nodes.{node}
use Rattle.fd_table.specs.Views.{access_asked}
use Rattle.kernel.specs.Calls.{truncated, truncates}
use Rattle.kernel.specs.Changes.{tree_after}
use Rattle.syscalls.specs.Shows.{shown}
use Rattle.syscalls.specs.AnswerViews.{world_at}
use Rattle.syscalls.proofs.Finding.{handed_on}
use Rattle.syscalls.proofs.Keeping.{meets_with, open_succeeds}
use Rattle.syscalls.proofs.kernels.Kernel.open_file.Goals as goal

pub returns-in_err-number : goal.returns-in_err-number
returns-in_err-number g c = λ s processes e same.
    let w = world_at g.T.Tree.nodes c.args.self processes in
    handed_on c.from_residual.result c.in_err-number.field-0.0 w _ _ c.from_residual.ensures.1 (c.in_err-number.ensures.passes e.refuse same _)

pub returns : goal.returns
returns g c = λ s processes e same.
    let t = g.T.Tree.nodes c.args.self.tree.now in
    let w = world_at g.T.Tree.nodes c.args.self processes in
    let p = c.args.self.caller.number in
    let how = c.args.how.now in
    let n = c.args.n in
    let number = c.in_ok-number.number in
    let place = (node t n).place in
    meets_with c.with_effects.ensures c.in_ok-effects.ensures.there
    (open_succeeds w p _ _ _ _ _ (truncated how.flags.trunc n) number n (access_asked how.flags) how.flags.append how.rights.0 how.fcntls.0 (truncates how.flags.trunc place)
    (c.in_ok-number.ensures.passes e.refuse same _)
    (sym (c.in_ok-effects.ensures.effects ∙ ap (λ b. map shown (truncates b place)) c.trunc.ensures))
    (c.in_ok-effects.ensures.tree ∙ ap (λ b. tree_after t (truncated b n)) c.trunc.ensures)
    c.in_ok-open_node.ensures.ok)
