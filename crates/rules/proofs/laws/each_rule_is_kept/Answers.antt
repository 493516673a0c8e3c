use Rattle.rules.proofs.rows.Probed.{each_is_kept}
use Rattle.rules.proofs.rows.ProbedMarks.{each_mark_is_kept}
use Rattle.rules.proofs.laws.each_rule_is_kept.Goals as goal

pub returns-clause-plain : goal.returns-clause-plain
returns-clause-plain c = each_is_kept

pub returns-clause-marked : goal.returns-clause-marked
returns-clause-marked c = each_mark_is_kept
