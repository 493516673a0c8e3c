use Rattle.answers.proofs.LearntLaws.{learnt_is_followed}
use Rattle.answers.proofs.laws.what_is_learnt_is_followed.Goals as goal

pub returns : goal.returns
returns c = learnt_is_followed
