use Rattle.std.proofs.Common.{◌≡◌, length}
use Rattle.records.specs.LineAccounts.{stands_in}
use Rattle.records.proofs.strace.stands_in.Given as goal

-- what is left decides it
abbrev pub invariant-loop-rest : goal.invariant-loop-rest
invariant-loop-rest l = stands_in l.rest l.mark ≡ stands_in l.line l.mark

abbrev pub decreases-loop-rest : goal.decreases-loop-rest
decreases-loop-rest l = length l.rest
