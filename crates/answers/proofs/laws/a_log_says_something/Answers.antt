use Rattle.answers.proofs.NoAnswerLaws.{log_says}
use Rattle.answers.proofs.laws.a_log_says_something.Goals as goal

pub returns : goal.returns
returns c = log_says
