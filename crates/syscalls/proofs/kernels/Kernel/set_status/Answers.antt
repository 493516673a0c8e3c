use Rattle.std.proofs.Common.{sym, subst}
use Rattle.fd_table.specs.Kept.{open_files}
use Rattle.instruction_set.specs.Views.{operand_of}
use Rattle.kernel.specs.Answers.{value_of}
use Rattle.kernel.specs.Calls.{answer, sets_flags}
use Rattle.syscalls.specs.AnswerViews.{Meets, world_at}
use Rattle.syscalls.proofs.Finding.{handed_on}
use Rattle.syscalls.proofs.kernels.Kernel.set_status.Goals as goal

pub returns-in_err-description : goal.returns-in_err-description
unfolding answer
returns-in_err-description g c = λ processes e same.
    handed_on c.from_residual.result c.in_err-description.field-0.0 (world_at g.T.Tree.nodes c.args.self processes) _ _ c.from_residual.ensures.1
    (c.in_err-description.ensures.passes (λ n. sets_flags
    (world_at g.T.Tree.nodes c.args.self processes) c.args.self.caller.number c.args.self.caller.process.now e n
    (value_of c.args.self.caller.process.now (operand_of c.args.flags))))

pub returns : goal.returns
unfolding answer
returns g c = λ processes e same.
    subst (Meets (world_at g.T.Tree.nodes c.args.self processes) c.args.self.caller.number (g.T.Tree.nodes c.change_flags.new.self.0) (open_files c.change_flags.new.self.1.0) c.change_flags.result)
    (sym (c.in_ok-description.ensures.passes (λ n. sets_flags
    (world_at g.T.Tree.nodes c.args.self processes) c.args.self.caller.number c.args.self.caller.process.now e n
    (value_of c.args.self.caller.process.now (operand_of c.args.flags))))) (c.change_flags.ensures c.args.self.caller.process.now processes e same)
