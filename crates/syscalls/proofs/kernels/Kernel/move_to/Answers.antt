use Rattle.std.proofs.Common.{refl, [], subst, arith}
use Rattle.fd_table.specs.Kept.{open_files}
use Rattle.kernel.specs.Calls.{seeks}
use Rattle.syscalls.specs.AnswerViews.{Succeeds, world_at}
use Rattle.syscalls.proofs.Tests.{passes, at_most}
use Rattle.syscalls.proofs.Keeping.{meets, state_succeeds}
use Rattle.syscalls.specs.declared.outcomes.Besides.TheVariants as besides
use Rattle.syscalls.proofs.kernels.Kernel.move_to.Goals as goal

pub returns : goal.returns
returns g c = λ s processes e same.
    let t = g.T.Tree.nodes c.args.self.tree.now in
    let w = world_at g.T.Tree.nodes c.args.self processes in
    let d = c.args.description in
    meets c.value.ensures (subst (λ v. Succeeds w c.args.self.caller.number t (open_files c.set_offset.new.self) c.value_of-offset.result besides.Nothing []
    (seeks w c.args.self.caller.number s e d v)) c.value_of-offset.ensures
    (state_succeeds w c.args.self.caller.number _ _ [] _ d _ [] (passes _ _ _ _ (at_most c.value_of-offset.result 4096 (omega arith))) refl c.set_offset.ensures))
