use Rattle.explore.proofs.TriedRows.{some_are_tried}
use Rattle.explore.proofs.laws.some_deeds_are_tried.Goals as goal

pub returns : goal.returns
returns c = some_are_tried
