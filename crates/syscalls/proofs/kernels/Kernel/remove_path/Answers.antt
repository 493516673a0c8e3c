use Rattle.std.proofs.Common.{sym, subst, refl}
use Rattle.fd_table.specs.Kept.{open_files}
use Rattle.kernel.specs.Calls.{answer, unlinks}
use Rattle.syscalls.specs.AnswerViews.{Meets, state_with, world_at}
use Rattle.syscalls.proofs.Finding.{handed_on}
use Rattle.syscalls.proofs.kernels.Kernel.remove_path.Goals as goal

pub remove-requires-clause-named : goal.remove-requires-clause-named
remove-requires-clause-named g c = (c.args.path.now, c.in_ok-found.ensures.named refl)

pub returns-in_err-found : goal.returns-in_err-found
unfolding answer
returns-in_err-found g c = λ processes e same.
    let w = world_at g.T.Tree.nodes c.args.self processes in
    let p = c.args.self.caller.number in
    let s = state_with c.args.self.caller c.args.walk in
    handed_on c.from_residual.result c.in_err-found.field-0.0 w _ _ c.from_residual.ensures.1 (c.in_err-found.ensures.leads processes p e (unlinks w p s e c.args.directory) (λ fault. refl))

pub returns : goal.returns
unfolding answer
returns g c = λ processes e same.
    let w = world_at g.T.Tree.nodes c.args.self processes in
    let p = c.args.self.caller.number in
    let s = state_with c.args.self.caller c.args.walk in
    subst (Meets w p (g.T.Tree.nodes c.remove.new.self.0) (open_files c.remove.new.self.1.0) c.remove.result) (sym (c.in_ok-found.ensures.leads processes p e (unlinks w p s e c.args.directory)))
    (c.remove.ensures s processes e same)
