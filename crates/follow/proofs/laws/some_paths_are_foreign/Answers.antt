use Rattle.follow.proofs.MoreSamples.{some_paths_are_foreign}
use Rattle.follow.proofs.laws.some_paths_are_foreign.Goals as goal

pub returns : goal.returns
returns c = some_paths_are_foreign
