use Rattle.checker.proofs.FindingLaws.{none_meets}
use Rattle.checker.proofs.laws.no_findings_meet_the_rules.Goals as goal

pub returns : goal.returns
returns c = none_meets
