use Rattle.std.proofs.Common.{ap, sym, ◌∙◌}
use Rattle.lookup.specs.Views.{after_move, rules_of, stand_of, last_of}
use Rattle.lookup.proofs.NodeSteps.{into_node, into_kept, steps_same}
use Rattle.lookup.proofs.trail.Trail.go_to.Goals as goal

pub returns-in-None-clause-steps : goal.returns-in-None-clause-steps
returns-in-None-clause-steps g c =
    let stand = stand_of c.args.self.now in
    let down = into_node (g.T.Tree.nodes c.args.tree.now) (last_of c.args.self.now.last) stand.cursor.current stand.cursor.before stand.left c.args.next (sym c.in-None.ensures) in
    steps_same c.go_down.result _ _ _ (ap (after_move (rules_of (g.T.Tree.nodes c.args.tree.now) c.args.self.now) c.args.self.now) down)
    (c.go_down.ensures.steps (rules_of (g.T.Tree.nodes c.args.tree.now) c.args.self.now))

pub returns-then-keeps-clause-steps : goal.returns-then-keeps-clause-steps
returns-then-keeps-clause-steps g c =
    let stand = stand_of c.args.self.now in
    let down = into_kept (g.T.Tree.nodes c.args.tree.now) (last_of c.args.self.now.last) stand.cursor.current stand.cursor.before stand.left c.args.next (sym c.keeps.ensures ∙ c.if-keeps.true) in
    steps_same c.go_down-then-keeps.result _ _ _ (ap (after_move (rules_of (g.T.Tree.nodes c.args.tree.now) c.args.self.now) c.args.self.now) down)
    (c.go_down-then-keeps.ensures.steps (rules_of (g.T.Tree.nodes c.args.tree.now) c.args.self.now))
