use Rattle.file_tree.proofs.PlaceNames.{names-above}
use Rattle.file_tree.proofs.places.text_above.Goals as goal

pub returns-in-Some-clause-names : goal.returns-in-Some-clause-names
returns-in-Some-clause-names c = names-above c.args.text.now c.in-Some.above.now c.in-Some._name.now c.in-Some.ensures
