use Rattle.std.proofs.Common.{sym, subst, refl, ◌∙◌}
use Rattle.fd_table.specs.Kept.{open_files}
use Rattle.kernel.specs.Calls.{answer}
use Rattle.syscalls.specs.AnswerViews.{Meets, Refuses, world_at}
use Rattle.syscalls.proofs.Finding.{handed_on}
use Rattle.syscalls.proofs.Targets.{at_node, at_end, end_named}
use Rattle.syscalls.proofs.kernels.Kernel.receive_descriptor.Goals as goal

pub returns-in_err-number-in-End : goal.returns-in_err-number-in-End
unfolding answer
returns-in_err-number-in-End g c = λ processes e same.
    handed_on c.from_residual-in_err-number-in-End.result c.in_err-number-in-End.field-0.0 (world_at g.T.Tree.nodes c.args.self processes) _ _ c.from_residual-in_err-number-in-End.ensures.1
    (subst (Refuses c.in_err-number-in-End.field-0.0) (sym (c.in_ok-socket.ensures.passes _ ∙ at_end _ _ c.in-End.end c.target_of.ensures c.in-End.is _ _)) (c.in_err-number-in-End.ensures.passes _))

pub returns-in-Node : goal.returns-in-Node
unfolding answer
returns-in-Node g c = λ processes e same.
    (c.in_ok-socket.ensures.passes _ ∙ at_node _ _ c.in-Node.field-0 c.target_of.ensures c.in-Node.is _ _, record { tree = refl; files = refl })

pub returns-in_ok-number-in-End : goal.returns-in_ok-number-in-End
unfolding answer
returns-in_ok-number-in-End g c = λ processes e same.
    let w = world_at g.T.Tree.nodes c.args.self processes in
    let p = c.args.self.caller.number in
    subst (Meets w p (g.T.Tree.nodes c.receive_end.new.self.0) (open_files c.receive_end.new.self.1.0) c.receive_end.result)
    (sym (c.in_ok-socket.ensures.passes _ ∙ at_end _ _ c.in-End.end c.target_of.ensures c.in-End.is _ _ ∙ c.in_ok-number-in-End.ensures.passes _))
    (c.receive_end.ensures c.args.self.caller.process.now processes e same)

pub receive_end-requires-clause-there : goal.receive_end-requires-clause-there
receive_end-requires-clause-there g c =
    end_named (open_files c.args.self.files.now) c.in_ok-socket.socket.description c.target_of.result c.in-End.end c.target_of.ensures c.in-End.is c.in_ok-socket.ensures.held.named
