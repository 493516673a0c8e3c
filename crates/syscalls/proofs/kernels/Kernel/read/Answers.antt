use Rattle.std.proofs.Common.{◌∙◌, sym, subst}
use Rattle.fd_table.specs.Kept.{open_files}
use Rattle.kernel.specs.Calls.{answer}
use Rattle.syscalls.specs.AnswerViews.{Meets, world_at}
use Rattle.syscalls.proofs.Finding.{handed_on}
use Rattle.syscalls.proofs.Targets.{at_node, at_end}
use Rattle.syscalls.proofs.kernels.Kernel.read.Goals as goal

pub returns-in_err-reached : goal.returns-in_err-reached
unfolding answer
returns-in_err-reached g c = λ processes e same.
    handed_on c.from_residual.result c.in_err-reached.field-0.0 (world_at g.T.Tree.nodes c.args.self processes) _ _ c.from_residual.ensures.1 (c.in_err-reached.ensures.passes _)

pub returns-in-Node : goal.returns-in-Node
unfolding answer
returns-in-Node g c = λ processes e same.
    let p = c.args.self.caller.number in
    subst (Meets (world_at g.T.Tree.nodes c.args.self processes) p (g.T.Tree.nodes c.read_node.new.self.0) (open_files c.read_node.new.self.1.0) c.read_node.result)
    (sym (c.in_ok-reached.ensures.passes _ ∙ at_node _ _ c.in-Node.found c.in_ok-reached.ensures.target c.in-Node.is _ _))
    (c.read_node.ensures c.args.self.caller.process.now processes e same)

pub returns-in-End : goal.returns-in-End
unfolding answer
returns-in-End g c = λ processes e same.
    let p = c.args.self.caller.number in
    subst (Meets (world_at g.T.Tree.nodes c.args.self processes) p (g.T.Tree.nodes c.read_end.new.self.0) (open_files c.read_end.new.self.1.0) c.read_end.result)
    (sym (c.in_ok-reached.ensures.passes _ ∙ at_end _ _ c.in-End.end c.in_ok-reached.ensures.target c.in-End.is _ _))
    (c.read_end.ensures c.args.self.caller.process.now processes e same)

pub read_node-requires-clause-named : goal.read_node-requires-clause-named
read_node-requires-clause-named g c = c.in_ok-reached.ensures.ready.named

pub read_end-requires-clause-named : goal.read_end-requires-clause-named
read_end-requires-clause-named g c = c.in_ok-reached.ensures.ready.named
