use Rattle.std.proofs.Common.{◌≡◌, [], ◌∷◌, ◌++◌, sym, ◌∙◌, rules}
use Rattle.lookup.specs.Views.{fault_of, way_of}
use Rattle.lookup.proofs.NodeSteps.{back_lost, lost_steps, popped}
use Rattle.lookup.proofs.trail.Trail.go_back.Goals as goal

pub returns-then-not-is_held_by-clause-steps : goal.returns-then-not-is_held_by-clause-steps
returns-then-not-is_held_by-clause-steps g c = λ by.
    let was : c.args.self.now.before.items ≡ c.pop.new.self.items ++ c.in-Some.dir ∷ [] = search rules in
    let lost = back_lost (g.T.Tree.nodes c.args.tree.now) (way_of c.args.self.now.way) c.args.self.now.current c.in-Some.dir _ _
    (popped c.args.self.now.before.items c.pop.new.self.items c.in-Some.dir was) (sym c.is_held_by.ensures ∙ c.if-not-is_held_by.true) in
    lost_steps by c.args.self.now _ (way_of c.args.self.now.way) (fault_of c.lost_way.result) lost c.lost_way.ensures
