use Rattle.follow.proofs.MoreSamples.{some_calls_are_excused}
use Rattle.follow.proofs.laws.some_calls_are_excused.Goals as goal

pub returns : goal.returns
returns c = some_calls_are_excused
