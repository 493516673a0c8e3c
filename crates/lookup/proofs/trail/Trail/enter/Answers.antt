use Rattle.lookup.specs.Views.{rules_of}
use Rattle.lookup.proofs.trail.Trail.enter.Goals as goal

pub returns-in-Nothing-clause-steps : goal.returns-in-Nothing-clause-steps
returns-in-Nothing-clause-steps g c = rw c.in-Nothing.is (c.end_at_absent.ensures (rules_of (g.T.Tree.nodes c.args.tree.now) c.args.self.now))
