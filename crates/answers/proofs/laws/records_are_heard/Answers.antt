use Rattle.answers.proofs.NoAnswerLaws.{records_are_heard}
use Rattle.answers.proofs.laws.records_are_heard.Goals as goal

pub returns : goal.returns
returns c = records_are_heard
