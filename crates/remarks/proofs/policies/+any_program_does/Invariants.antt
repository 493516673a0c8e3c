use Rattle.std.proofs.Common.{length}
use Rattle.remarks.proofs.policies.+any_program_does.Given as goal

abbrev pub decreases-any_program_does : goal.decreases-any_program_does
decreases-any_program_does l = length l.programs.now
