use Rattle.std.proofs.Common.{length}
use Rattle.certificate.proofs.growth.+is_class_of_ends.Given as goal

abbrev pub decreases-is_class_of_ends : goal.decreases-is_class_of_ends
decreases-is_class_of_ends l = length l.holds.now
