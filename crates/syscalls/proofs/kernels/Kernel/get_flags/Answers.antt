use Rattle.std.proofs.Common.{sym, refl, [], ap, ◌∙◌}
use Rattle.fd_table.specs.Descriptions.{status_number}
use Rattle.fd_table.specs.Kept.{open_files}
use Rattle.kernel.specs.Answers.{Gives, same as unchanged}
use Rattle.kernel.specs.Calls.{answer}
use Rattle.syscalls.specs.AnswerViews.{world_at}
use Rattle.syscalls.proofs.Finding.{handed_on}
use Rattle.syscalls.proofs.Keeping.{meets, same_succeeds}
use Rattle.syscalls.proofs.kernels.Kernel.get_flags.Goals as goal

pub returns-in_err-description : goal.returns-in_err-description
unfolding answer
returns-in_err-description g c = λ processes e same.
    handed_on c.from_residual.result c.in_err-description.field-0.0 (world_at g.T.Tree.nodes c.args.self processes) _ _ c.from_residual.ensures.1
    (c.in_err-description.ensures.passes (λ n. Gives (status_number ((open_files c.args.self.files.now).states n)) unchanged []))

pub returns : goal.returns
unfolding answer
returns g c = λ processes e same.
    meets c.value.ensures (same_succeeds (world_at g.T.Tree.nodes c.args.self processes) _ _ _ _ [] c.requires.idle
    (c.in_ok-description.ensures.passes (λ n. Gives (status_number ((open_files c.args.self.files.now).states n)) unchanged [])
    ∙ ap (λ v. Gives v unchanged []) (sym (c.number.ensures ∙ ap status_number c.what.ensures.state)))
    refl)
