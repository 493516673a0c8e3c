use Rattle.lookup.proofs.NameLaws.{within_rest}
use Rattle.lookup.proofs.names.Names.pass.Goals as goal

pub invariant_of-self : goal.invariant_of-self
invariant_of-self c = within_rest c.self.inside.text.items c.self.inside.spans.items c.pop.new.self.items c.pop.result c.pop.ensures.items c.self.invariant
