use Rattle.std.proofs.Common.{◌≡◌, ◌∙◌}
use Rattle.std.proofs.lemmas.Result.{err_from_is_err_and}
use Rattle.lookup.specs.Looks.{walk_of}
use Rattle.lookup.specs.Walks.{Done, More, handled}
use Rattle.lookup.specs.Views.{fault_of, found_of, last_of, way_of}
use Rattle.lookup.proofs.Walking.{begun_rest, fault_is_walk, handled_more, ends_with, ends_lost}
use Rattle.lookup.proofs.Events.{stays_in_tree}
use Rattle.lookup.proofs.lookups.walked.Goals as goal

pub returns-in_err-walk-clause-exact : goal.returns-in_err-walk-clause-exact
returns-in_err-walk-clause-exact g c =
    let p = err_from_is_err_and c.from_residual.result c.from_residual.ensures.1 in
    rw (p.1, p.2) (fault_is_walk (g.T.Tree.nodes c.args.tree.now) c.args.start c.args.path.now (way_of c.args.way) (last_of c.args.last) c.in_err-walk.field-0.0 c.in_err-walk.ensures.refused)

pub loop-walk-init : goal.loop-walk-init
loop-walk-init g c = record {
  in_tree = c.in_ok-walk.ensures.in_tree;
  rest = begun_rest (g.T.Tree.nodes c.args.tree.now) c.args.start c.args.path.now (way_of c.args.way) (last_of c.args.last) c.in_ok-walk.walk
      c.in_ok-walk.ensures.allowed c.in_ok-walk.ensures.begun;
}

pub returns-in_err-step-clause-exact : goal.returns-in_err-step-clause-exact
returns-in_err-step-clause-exact g c =
    let p = err_from_is_err_and c.from_residual-in_err-step.result c.from_residual-in_err-step.ensures.1 in
    rw (p.1, p.2) (ends_lost (g.T.Tree.nodes c.args.tree.now) c.loop-walk.walk (fault_of c.in_err-step.field-0.0)
    (walk_of (g.T.Tree.nodes c.args.tree.now) c.args.start c.args.path.now (way_of c.args.way)
    (last_of c.args.last)) c.in_err-step.ensures.event c.loop-walk.invariant.rest)

pub returns-in-Done-clause-exact : goal.returns-in-Done-clause-exact
returns-in-Done-clause-exact g c =
    let done : handled (g.T.Tree.nodes c.args.tree.now) c.loop-walk.walk ≡ Done (found_of c.in-Done.found) = rw c.in-Done.is at c.in_ok-step.ensures.event in
    ends_with (g.T.Tree.nodes c.args.tree.now) c.loop-walk.walk (found_of c.in-Done.found)
    (walk_of (g.T.Tree.nodes c.args.tree.now) c.args.start c.args.path.now (way_of c.args.way)
    (last_of c.args.last)) done c.loop-walk.invariant.rest

pub loop-walk-preserved : goal.loop-walk-preserved
loop-walk-preserved g c =
    let more : handled (g.T.Tree.nodes c.args.tree.now) c.loop-walk.walk ≡ More c.step.new.self = rw c.in-More.is at c.in_ok-step.ensures.event in
    record {
      in_tree = stays_in_tree (g.T.Tree.nodes c.args.tree.now) c.loop-walk.walk c.step.new.self c.in_ok-walk.ensures.tree more c.loop-walk.invariant.in_tree;
      rest = handled_more (g.T.Tree.nodes c.args.tree.now) c.loop-walk.walk c.step.new.self more ∙ c.loop-walk.invariant.rest;
    }
