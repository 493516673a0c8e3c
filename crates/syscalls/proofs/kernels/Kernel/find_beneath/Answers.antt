use Rattle.lookup.specs.Answers.{Beneath}
use Rattle.lookup.specs.Views.{last_of}
use Rattle.lookup.specs.Walks.{first_handled, handled}
use Rattle.process.specs.Views.{walking_in}
use Rattle.kernel.specs.Calls.{looks, resumed_one}
use Rattle.syscalls.specs.AnswerViews.{LooksUp, state_with}
use Rattle.syscalls.proofs.Finding.{by_error, leads_on}
use Rattle.syscalls.proofs.kernels.Kernel.find_beneath.Goals as goal

pub returns-in_err-dir-clause-leads : goal.returns-in_err-dir-clause-leads
returns-in_err-dir-clause-leads g c = λ processes p e.
    by_error (LooksUp _) c.from_residual.result c.in_err-dir.field-0.0 c.from_residual.ensures.1
    (λ rest tells. c.in_err-dir.ensures.passes processes p (state_with c.args.self.now.caller c.args.walk) e _)

pub returns-clause-leads : goal.returns-clause-leads
unfolding looks
returns-clause-leads g c = λ processes p e.
    let t = g.T.Tree.nodes c.args.self.now.tree.now in
    leads_on _ c.look_up.result (resumed_one (walking_in c.args.walk) (first_handled t c.in_ok-dir.dir c.args.path.now Beneath (last_of c.args.last)) (handled t))
    (λ rest. c.in_ok-dir.ensures.passes processes p (state_with c.args.self.now.caller c.args.walk) e _) c.look_up.ensures.finds
