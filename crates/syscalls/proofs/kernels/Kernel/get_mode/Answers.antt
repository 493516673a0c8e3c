use Rattle.std.proofs.Common.{refl, sym, ap, ◌∙◌, []}
use Rattle.fd_table.specs.Descriptions.{bit_of}
use Rattle.kernel.specs.Answers.{Gives, same as unchanged}
use Rattle.kernel.specs.Calls.{answer}
use Rattle.syscalls.specs.AnswerViews.{world_at}
use Rattle.syscalls.proofs.Keeping.{meets, same_succeeds}
use Rattle.syscalls.proofs.kernels.Kernel.get_mode.Goals as goal

pub returns : goal.returns
unfolding answer
returns g c = λ processes e same.
    meets c.value.ensures (same_succeeds (world_at g.T.Tree.nodes c.args.self processes) c.args.self.caller.number _ [] _ [] c.requires.idle
    (ap (λ v. Gives v unchanged []) (sym (c.mode_number.ensures ∙ ap (λ b. bit_of b 1) c.mode.ensures)))
    refl)
