use Rattle.explain.proofs.Tellings.{some_others}
use Rattle.explain.proofs.refusing.add_others.Goals as goal

pub returns-then-count-ne0 : goal.returns-then-count-ne0
returns-then-count-ne0 c = some_others c.args.page.now c.say.new.page c.args.count c.if-count-ne0.true c.say.ensures
