use Rattle.checker.proofs.FindingLaws.{are_broken}
use Rattle.checker.proofs.laws.findings_are_what_is_broken.Goals as goal

pub returns : goal.returns
returns c = are_broken
