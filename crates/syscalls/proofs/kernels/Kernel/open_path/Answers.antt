use Rattle.std.proofs.Common.{sym, subst, refl}
use Rattle.rights.specs.Sets.{all_commands, all_rights}
use Rattle.fd_table.specs.Kept.{open_files}
use Rattle.lookup.specs.Answers.{Global, Last}
use Rattle.lookup.specs.Views.{found_of}
use Rattle.kernel.specs.Calls.{answer, looks, opened, outside_mode}
use Rattle.syscalls.specs.AnswerViews.{Meets, Refuses, state_with, world_at}
use Rattle.syscalls.proofs.Finding.{handed_on}
use Rattle.syscalls.proofs.kernels.Kernel.open_path.Goals as goal

pub returns-in_err-found : goal.returns-in_err-found
unfolding answer
returns-in_err-found g c = λ processes e same.
    let w = world_at g.T.Tree.nodes c.args.self processes in
    let p = c.args.self.caller.number in
    let s = state_with c.args.self.caller c.args.walk in
    let rest = opened w p s e c.args.flags all_rights all_commands c.args.path.now in
    handed_on c.from_residual.result c.in_err-found.field-0.0 w _ _ c.from_residual.ensures.1
    (subst (λ (last : Last). Refuses c.in_err-found.field-0.0 (outside_mode w p s e (looks w p s e 0 Global c.args.path.now last rest))) c.last_if.ensures
    (c.in_err-found.ensures.leads processes p e rest (λ fault. refl)))

pub returns : goal.returns
unfolding answer
returns g c = λ processes e same.
    let w = world_at g.T.Tree.nodes c.args.self processes in
    let p = c.args.self.caller.number in
    let s = state_with c.args.self.caller c.args.walk in
    let path = c.args.path.now in
    let found = found_of c.in_ok-found.found in
    let rest = opened w p s e c.args.flags all_rights all_commands path in
    let after = Meets w p (g.T.Tree.nodes c.open_found.new.self.0) (open_files c.open_found.new.self.1.0) c.open_found.result in
    subst (λ (last : Last). after (outside_mode w p s e (looks w p s e 0 Global path last rest))) c.last_if.ensures
    (subst after (sym (c.in_ok-found.ensures.leads processes p e rest))
    (subst (λ rights. after (opened w p s e c.args.flags rights all_commands path found)) c.all.ensures
    (subst (λ fcntls. after (opened w p s e c.args.flags c.all.result.0 fcntls path found)) c.all-2.ensures (c.open_found.ensures s processes e same))))
