use Rattle.std.proofs.Common.{sym, subst, refl}
use Rattle.fd_table.specs.Kept.{open_files}
use Rattle.kernel.specs.Calls.{answer, stats_at}
use Rattle.syscalls.specs.AnswerViews.{Meets, state_with, world_at}
use Rattle.syscalls.proofs.Finding.{handed_on}
use Rattle.syscalls.proofs.kernels.Kernel.stat_beneath.Goals as goal

pub returns-in_err-found : goal.returns-in_err-found
unfolding answer
returns-in_err-found g c = λ processes e same.
    let w = world_at g.T.Tree.nodes c.args.self processes in
    let p = c.args.self.caller.number in
    let s = state_with c.args.self.caller c.args.walk in
    handed_on c.from_residual.result c.in_err-found.field-0.0 w _ _ c.from_residual.ensures.1 (c.in_err-found.ensures.leads processes p e (stats_at w p s e) (λ fault. refl))

pub returns : goal.returns
unfolding answer
returns g c = λ processes e same.
    let w = world_at g.T.Tree.nodes c.args.self processes in
    let p = c.args.self.caller.number in
    let s = state_with c.args.self.caller c.args.walk in
    subst (Meets w p (g.T.Tree.nodes c.stat_found.new.self.0) (open_files c.stat_found.new.self.1.0) c.stat_found.result) (sym (c.in_ok-found.ensures.leads processes p e (stats_at w p s e)))
    (c.stat_found.ensures s processes e same)
