use Rattle.std.proofs.Common.{[], ap, refl, sym, ◌∙◌, subst}
use Rattle.std.specs.Prelude.{Bool, not, bit_or}
use Rattle.fd_table.specs.Kept.{open_files}
use Rattle.instruction_set.specs.Views.{operand_of}
use Rattle.kernel.specs.Calls.{answer, used}
use Rattle.syscalls.specs.AnswerViews.{Meets, Refuses, world_at}
use Rattle.syscalls.proofs.Finding.{handed_on}
use Rattle.syscalls.proofs.Targets.{at_node, at_end}
use Rattle.syscalls.proofs.Tests.{fails}
use Rattle.syscalls.proofs.Using.{goes_through}
use Rattle.syscalls.proofs.kernels.Kernel.use_right.Goals as goal

pub returns-then-is_out_of_reach : goal.returns-then-is_out_of_reach
unfolding answer
returns-then-is_out_of_reach g c = λ processes e same.
    (fails _ _ _ _ (ap not (sym c.is_out_of_reach.ensures ∙ c.if-is_out_of_reach.true)), record { tree = refl; files = refl })

pub returns-in_err-reached : goal.returns-in_err-reached
returns-in_err-reached g c = λ processes e same.
    let w = world_at g.T.Tree.nodes c.args.self processes in
    let whole = goes_through w c.args.self.caller.number c.args.self.caller.process.now e (operand_of c.args.operand) c.args.right.0 _
    (sym c.is_out_of_reach.ensures ∙ c.if-is_out_of_reach.false) (c.union.ensures ∙ ap (λ need. bit_or need c.args.right.0) c.companions_of.ensures) in
    handed_on c.from_residual.result c.in_err-reached.field-0.0 w _ _ c.from_residual.ensures.1
    (subst (Refuses c.in_err-reached.field-0.0) (sym whole) (c.in_err-reached.ensures.passes _))

pub returns-in-Node : goal.returns-in-Node
returns-in-Node g c = λ processes e same.
    let w = world_at g.T.Tree.nodes c.args.self processes in
    let p = c.args.self.caller.number in
    let s = c.args.self.caller.process.now in
    let whole = goes_through w p s e (operand_of c.args.operand) c.args.right.0 _
    (sym c.is_out_of_reach.ensures ∙ c.if-is_out_of_reach.false) (c.union.ensures ∙ ap (λ need. bit_or need c.args.right.0) c.companions_of.ensures) in
    subst (Meets w p (g.T.Tree.nodes c.use_node.new.self.0) (open_files c.use_node.new.self.1.0) c.use_node.result)
    (sym (whole ∙ c.in_ok-reached.ensures.passes _ ∙ at_node _ _ c.in-Node.found c.in_ok-reached.ensures.target c.in-Node.is _ _))
    (c.use_node.ensures s processes e same)

pub returns-in-End : goal.returns-in-End
returns-in-End g c = λ processes e same.
    let w = world_at g.T.Tree.nodes c.args.self processes in
    let p = c.args.self.caller.number in
    let s = c.args.self.caller.process.now in
    let whole = goes_through w p s e (operand_of c.args.operand) c.args.right.0 _
    (sym c.is_out_of_reach.ensures ∙ c.if-is_out_of_reach.false) (c.union.ensures ∙ ap (λ need. bit_or need c.args.right.0) c.companions_of.ensures) in
    let after = Meets w p (g.T.Tree.nodes c.used.new.self.0) (open_files c.used.new.self.1.0) c.used.result in
    subst after (sym (whole ∙ c.in_ok-reached.ensures.passes _ ∙ at_end _ _ c.in-End.field-0 c.in_ok-reached.ensures.target c.in-End.is _ _))
    (subst (λ (b : Bool). after (used w p s e (not b) [])) c.acts_beneath.ensures (c.used.ensures [] refl s processes e same))
