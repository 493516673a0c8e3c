use Rattle.std.proofs.Common.{◌≡◌, subst}
use Rattle.std.proofs.lemmas.Result.{err_from_is_err_and}
use Rattle.lookup.specs.Leads.{Goes, Ends, next}
use Rattle.lookup.specs.Views.{IsSettled, fault_of, found_of, rules_of, stand_of, walk_state}
use Rattle.lookup.specs.declared.trail.Trail.{Trail}
use Rattle.lookup.proofs.Events.{event_more, event_done, event_lost, stays_near, stays_in_tree}
use Rattle.lookup.proofs.walk.Walk.step.Goals as goal
use Rattle.lookup.proofs.walk.Walk.step.Goals.{in-More, in-Done}

pub returns-in_err-step-clause-event : goal.returns-in_err-step-clause-event
returns-in_err-step-clause-event g c =
    let p = err_from_is_err_and c.from_residual.result c.from_residual.ensures.1 in
    let trail = c.deref_mut.result.now in
    let view : walk_state trail ≡ c.args.self.now = rw c.deref_mut.ensures.value c.self.view_is in
    rw (p.1, p.2) (event_lost (g.T.Tree.nodes c.args.tree.now) c.args.self.now trail view (fault_of c.in_err-step.field-0.0) c.in_err-step.ensures.steps)

pub returns-clause-event : goal.returns-clause-event
returns-clause-event g c =
    let t = g.T.Tree.nodes c.args.tree.now in
    let trail = c.deref_mut.result.now in
    let view : walk_state trail ≡ c.args.self.now = rw c.deref_mut.ensures.value c.self.view_is in
    elim c.match-branch-2.branch [
      | in-More w ↦
          let goes : next (rules_of t trail) (stand_of trail) ≡ Goes (stand_of c.step.new.self) = rw w.in-More.is at c.in_ok-step.ensures.steps in
          let settled = subst (λ (trail : Trail). IsSettled w.settle.result (stand_of trail)) w.deref.ensures w.settle.ensures.settled in
          rw w.result-is (event_more t c.args.self.now trail view c.step.new.self w.settle.result c.in_ok-step.ensures.rules goes settled)
      | in-Done w ↦
          let ends : next (rules_of t trail) (stand_of trail) ≡ Ends (found_of w.in-Done.found) = rw w.in-Done.is at c.in_ok-step.ensures.steps in
          rw w.result-is (event_done t c.args.self.now trail view (found_of w.in-Done.found) ends)
    ]

pub returns-clause-in_tree : goal.returns-clause-in_tree
returns-clause-in_tree g c = λ more. stays_in_tree (g.T.Tree.nodes c.args.tree.now) c.args.self.now _ c.step.ensures.tree (rw more at (returns-clause-event g c)) c.requires

pub returns-clause-places : goal.returns-clause-places
returns-clause-places g c = λ beneath. stays_near (g.T.Tree.nodes c.args.tree.now) c.args.self.now _ c.match-branch-2.result c.step.ensures.tree beneath (returns-clause-event g c)
