use Rattle.std.proofs.Common.{refl, [], subst, arith}
use Rattle.fd_table.specs.Descriptions.{with_status}
use Rattle.fd_table.specs.Kept.{open_files}
use Rattle.kernel.specs.Calls.{sets_flags}
use Rattle.syscalls.specs.AnswerViews.{Succeeds, world_at}
use Rattle.syscalls.proofs.Tests.{passes, at_most}
use Rattle.syscalls.proofs.Keeping.{meets, state_succeeds}
use Rattle.syscalls.specs.declared.outcomes.Besides.TheVariants as besides
use Rattle.syscalls.proofs.kernels.Kernel.change_flags.Goals as goal

pub returns : goal.returns
returns g c = λ s processes e same.
    let t = g.T.Tree.nodes c.args.self.tree.now in
    let f = open_files c.args.self.files.now in
    let w = world_at g.T.Tree.nodes c.args.self processes in
    let d = c.args.description in
    let flags = c.value_of-flags.result in
    meets c.value.ensures (subst (λ v. Succeeds w c.args.self.caller.number t (open_files c.set_status.new.self) 0 besides.Nothing []
    (sets_flags w c.args.self.caller.number s e d v)) c.value_of-flags.ensures
    (state_succeeds w c.args.self.caller.number _ _ [] _ d (with_status (f.states d) flags) [] (passes _ _ _ _ (at_most flags 3 (omega arith)))
    refl c.set_status.ensures))
