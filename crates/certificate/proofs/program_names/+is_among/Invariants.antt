use Rattle.std.proofs.Common.{length}
use Rattle.certificate.proofs.program_names.+is_among.Given as goal

abbrev pub decreases-is_among : goal.decreases-is_among
decreases-is_among l = length l.names.now
