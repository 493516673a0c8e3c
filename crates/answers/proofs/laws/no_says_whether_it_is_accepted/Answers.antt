use Rattle.answers.proofs.NoAnswerLaws.{no_says}
use Rattle.answers.proofs.laws.no_says_whether_it_is_accepted.Goals as goal

pub returns : goal.returns
returns c = no_says
