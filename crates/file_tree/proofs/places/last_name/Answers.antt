use Rattle.file_tree.proofs.PlaceNames.{last-at}
use Rattle.file_tree.proofs.places.last_name.Goals as goal

pub returns-then-text-at-eq47 : goal.returns-then-text-at-eq47
returns-then-text-at-eq47 c = last-at c.args.text.now c.loop-at.at c.loop-at-test.true c.loop-at.auto.at c.if-text-at-eq47.true c.loop-at.invariant c.requires
