use Rattle.std.proofs.Common.{sym, subst}
use Rattle.fd_table.specs.Kept.{open_files}
use Rattle.instruction_set.specs.Views.{operand_of}
use Rattle.kernel.specs.Answers.{value_of}
use Rattle.kernel.specs.Calls.{answer, seeks}
use Rattle.syscalls.specs.AnswerViews.{Meets, world_at}
use Rattle.syscalls.specs.Views.{world_with}
use Rattle.syscalls.proofs.Finding.{handed_on}
use Rattle.syscalls.proofs.kernels.Kernel.seek.Goals as goal

pub returns-in_err-found : goal.returns-in_err-found
unfolding answer
returns-in_err-found g c = λ processes e same.
    handed_on c.from_residual.result c.in_err-found.field-0.0 (world_at g.T.Tree.nodes c.args.self processes) _ _ c.from_residual.ensures.1
    (c.in_err-found.ensures.passes processes c.args.self.caller.number c.args.self.caller.process.now e
    (λ found. seeks (world_with (g.T.Tree.nodes c.args.self.tree.now)
    (open_files c.args.self.files.now) processes) c.args.self.caller.number c.args.self.caller.process.now e found.0.description
    (value_of c.args.self.caller.process.now (operand_of c.args.to))))

pub returns : goal.returns
unfolding answer
returns g c = λ processes e same.
    subst (Meets (world_at g.T.Tree.nodes c.args.self processes) c.args.self.caller.number (g.T.Tree.nodes c.move_to.new.self.0) (open_files c.move_to.new.self.1.0) c.move_to.result)
    (sym (c.in_ok-found.ensures.passes processes c.args.self.caller.number c.args.self.caller.process.now e
    (λ found. seeks (world_with (g.T.Tree.nodes c.args.self.tree.now)
    (open_files c.args.self.files.now) processes) c.args.self.caller.number c.args.self.caller.process.now e found.0.description
    (value_of c.args.self.caller.process.now (operand_of c.args.to))))) (c.move_to.ensures c.args.self.caller.process.now processes e same)
