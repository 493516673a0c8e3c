use Rattle.std.proofs.Common.{length}
use Rattle.checker.proofs.findings.+add_unkept.Given as goal

abbrev pub decreases-add_unkept : goal.decreases-add_unkept
decreases-add_unkept l = length l.rules.now
