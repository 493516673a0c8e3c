use Rattle.std.proofs.Common.{sym, ◌∙◌}
use Rattle.lookup.specs.Views.{last_of}
use Rattle.lookup.proofs.AtOnce.{named_alone, named_first}
use Rattle.lookup.proofs.at_once.find_name.Goals as goal

pub returns-clause-first : goal.returns-clause-first
returns-clause-first g c =
    named_first (g.T.Tree.nodes c.args.tree.now) c.args.start c.args.path.now (last_of c.args.last) c.named.result
    (sym c.may_name.ensures.may ∙ c.if-not-may_name.false) c.named.ensures

pub returns-clause-alone : goal.returns-clause-alone
returns-clause-alone g c =
    named_alone (g.T.Tree.nodes c.args.tree.now) c.args.start c.args.path.now (last_of c.args.last) c.named.result
    (sym c.may_name.ensures.may ∙ c.if-not-may_name.false)
