use Rattle.std.proofs.Common.{ap, refl, sym, ◌∙◌}
use Rattle.rights.specs.Operations.{Look}
use Rattle.file_tree.specs.Nodes.{node}
use Rattle.kernel.specs.Answers.{Gives, does, same as unchanged}
use Rattle.kernel.specs.Calls.{kind_number}
use Rattle.syscalls.specs.AnswerViews.{world_at}
use Rattle.syscalls.proofs.Keeping.{meets_with, same_succeeds}
use Rattle.syscalls.proofs.kernels.Kernel.stat.Goals as goal

pub returns : goal.returns
returns g c = λ s processes e same.
    let p = c.args.self.caller.number in
    let t = g.T.Tree.nodes c.args.self.tree.now in
    let effects = does Look (node t c.args.n).place in
    meets_with c.with_effects.ensures c.requires.there (same_succeeds (world_at g.T.Tree.nodes c.args.self processes) p _ _ _ effects c.requires.ready.idle
    (ap (λ v. Gives v unchanged effects) (sym (c.number_of-value.ensures ∙ ap kind_number c.kind.ensures))) refl)
