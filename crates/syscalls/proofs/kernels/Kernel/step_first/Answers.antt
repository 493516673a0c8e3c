use Rattle.std.proofs.Common.{subst}
use Rattle.lookup.specs.Views.{fault_of, last_of, way_of}
use Rattle.lookup.specs.Walks.{first_handled}
use Rattle.syscalls.specs.AnswerViews.{Finds}
use Rattle.syscalls.proofs.Walked.{first_is, first_lost}
use Rattle.syscalls.proofs.kernels.Kernel.step_first.Goals as goal

pub returns-in-Ok : goal.returns-in-Ok
returns-in-Ok g c =
    subst (λ event. Finds event c.step_on.result)
    (first_is (g.T.Tree.nodes c.args.self.now.tree.now) c.args.start c.args.path.now (way_of c.args.way) (last_of c.args.last) c.in-Ok.walk c.in-Ok.ensures.allowed c.in-Ok.ensures.begun)
    c.step_on.ensures

pub returns-in-Err : goal.returns-in-Err
returns-in-Err g c =
    let t = g.T.Tree.nodes c.args.self.now.tree.now in
    c.refusal_of.ensures (first_handled t c.args.start c.args.path.now (way_of c.args.way) (last_of c.args.last))
    (first_lost t c.args.start c.args.path.now (way_of c.args.way) (last_of c.args.last) (fault_of c.in-Err.fault) c.in-Err.ensures.refused)
