use Rattle.answers.proofs.NoAnswerLaws.{none_says}
use Rattle.answers.proofs.laws.none_says_something.Goals as goal

pub returns : goal.returns
returns c = none_says
