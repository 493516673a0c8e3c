use Rattle.std.proofs.Common.{ap, ◌∙◌}
use Rattle.std.specs.Prelude.{not}
use Rattle.syscalls.specs.AnswerViews.{world_at}
use Rattle.syscalls.proofs.Keeping.{meets_with, same_succeeds}
use Rattle.syscalls.proofs.Tests.{passes}
use Rattle.syscalls.proofs.kernels.Kernel.used.Goals as goal

pub returns : goal.returns
returns g c = λ did prints s processes e same.
    meets_with c.with_effects.ensures c.requires.there (same_succeeds (world_at g.T.Tree.nodes c.args.self processes) c.args.self.caller.number _ _ _ did c.requires.idle
    (passes _ _ _ _ c.if-not-fits.false ∙ passes _ _ _ _ (ap not (same ∙ c.if-self.false))) prints)
