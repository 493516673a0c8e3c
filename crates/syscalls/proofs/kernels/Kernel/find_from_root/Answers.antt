use Rattle.std.proofs.Common.{ℕ, ap, subst}
use Rattle.std.specs.Prelude.{not}
use Rattle.lookup.specs.Answers.{Global}
use Rattle.lookup.specs.Views.{last_of}
use Rattle.lookup.specs.Walks.{first_handled, handled}
use Rattle.process.specs.Views.{walking_in}
use Rattle.kernel.specs.Calls.{looks, resumed_one}
use Rattle.syscalls.specs.AnswerViews.{Finds, LooksUp}
use Rattle.syscalls.proofs.Finding.{by_error, leads_on}
use Rattle.syscalls.proofs.Tests.{passes}
use Rattle.syscalls.proofs.kernels.Kernel.find_from_root.Goals as goal

pub returns-in_err-outside_mode-clause-leads : goal.returns-in_err-outside_mode-clause-leads
returns-in_err-outside_mode-clause-leads g c = λ processes p e.
    by_error (LooksUp _) c.from_residual.result c.in_err-outside_mode.field-0.0 c.from_residual.ensures.1 (λ rest tells. c.in_err-outside_mode.ensures.refused _)

pub returns-clause-leads : goal.returns-clause-leads
unfolding looks
returns-clause-leads g c = λ processes p e.
    let t = g.T.Tree.nodes c.args.self.now.tree.now in
    let event = λ (n : ℕ). resumed_one (walking_in c.args.walk) (first_handled t n c.args.path.now Global (last_of c.args.last)) (handled t) in
    leads_on _ c.look_up.result (event 0) (λ rest. passes _ _ _ _ (ap not c.in_ok-outside_mode.ensures.ok))
    (subst (λ n. Finds (event n) c.look_up.result) c.root.ensures.first c.look_up.ensures.finds)
