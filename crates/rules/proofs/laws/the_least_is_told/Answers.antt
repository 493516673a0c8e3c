use Rattle.rules.proofs.rows.Probed.{least_is_told}
use Rattle.rules.proofs.rows.ProbedMarks.{least_mark_is_told}
use Rattle.rules.proofs.laws.the_least_is_told.Goals as goal

pub returns-clause-plain : goal.returns-clause-plain
returns-clause-plain c = least_is_told

pub returns-clause-marked : goal.returns-clause-marked
returns-clause-marked c = least_mark_is_told
