use Rattle.std.proofs.Common.{length}
use Rattle.records.proofs.strace_texts.without_spaces.Given as goal

abbrev pub decreases-loop-rest : goal.decreases-loop-rest
decreases-loop-rest l = length l.rest
