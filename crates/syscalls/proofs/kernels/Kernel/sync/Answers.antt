use Rattle.std.proofs.Common.{◌∙◌, refl, []}
use Rattle.kernel.specs.Calls.{answer}
use Rattle.syscalls.specs.AnswerViews.{world_at}
use Rattle.syscalls.proofs.Finding.{handed_on}
use Rattle.syscalls.proofs.Targets.{at_node, at_end}
use Rattle.syscalls.proofs.Keeping.{meets, same_succeeds}
use Rattle.syscalls.proofs.kernels.Kernel.sync.Goals as goal

pub returns-in_err-reached : goal.returns-in_err-reached
unfolding answer
returns-in_err-reached g c = λ processes e same.
    handed_on c.from_residual.result c.in_err-reached.field-0.0 (world_at g.T.Tree.nodes c.args.self processes) _ _ c.from_residual.ensures.1 (c.in_err-reached.ensures.passes _)

pub returns-in-End : goal.returns-in-End
unfolding answer
returns-in-End g c = λ processes e same.
    (c.in_ok-reached.ensures.passes _ ∙ at_end _ _ c.in-End.field-0 c.in_ok-reached.ensures.target c.in-End.is _ _, record { tree = refl; files = refl })

pub returns-in-Node : goal.returns-in-Node
unfolding answer
returns-in-Node g c = λ processes e same.
    meets c.value.ensures (same_succeeds (world_at g.T.Tree.nodes c.args.self processes) _ _ _ _ [] c.requires.idle
    (c.in_ok-reached.ensures.passes _ ∙ at_node _ _ c.in-Node.field-0 c.in_ok-reached.ensures.target c.in-Node.is _ _) refl)
