use Rattle.std.proofs.Common.{sym, subst, refl}
use Rattle.fd_table.specs.Kept.{open_files}
use Rattle.kernel.specs.Calls.{answer, made_directory}
use Rattle.syscalls.specs.AnswerViews.{Meets, state_with, world_at}
use Rattle.syscalls.proofs.Finding.{handed_on}
use Rattle.syscalls.proofs.kernels.Kernel.make_beneath.Goals as goal

pub returns-in_err-found : goal.returns-in_err-found
unfolding answer
returns-in_err-found g c = λ processes e same.
    let w = world_at g.T.Tree.nodes c.args.self processes in
    let p = c.args.self.caller.number in
    let s = state_with c.args.self.caller c.args.walk in
    handed_on c.from_residual.result c.in_err-found.field-0.0 w _ _ c.from_residual.ensures.1 (c.in_err-found.ensures.leads processes p e (made_directory w p s e c.args.path.now) (λ fault. refl))

pub returns : goal.returns
unfolding answer
returns g c = λ processes e same.
    let w = world_at g.T.Tree.nodes c.args.self processes in
    let p = c.args.self.caller.number in
    let s = state_with c.args.self.caller c.args.walk in
    subst (Meets w p (g.T.Tree.nodes c.make_directory.new.self.0) (open_files c.make_directory.new.self.1.0) c.make_directory.result)
    (sym (c.in_ok-found.ensures.leads processes p e (made_directory w p s e c.args.path.now)))
    (c.make_directory.ensures s processes e same)
