use Rattle.rules.proofs.rows.Probed.{each_is_broken}
use Rattle.rules.proofs.rows.ProbedMarks.{each_mark_is_broken}
use Rattle.rules.proofs.laws.each_rule_is_broken.Goals as goal

pub returns-clause-plain : goal.returns-clause-plain
returns-clause-plain c = each_is_broken

pub returns-clause-marked : goal.returns-clause-marked
returns-clause-marked c = each_mark_is_broken
