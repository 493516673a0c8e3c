use Rattle.std.proofs.Common.{length}
use Rattle.certificate.proofs.growth.+is_class_held.Given as goal

abbrev pub decreases-is_class_held : goal.decreases-is_class_held
decreases-is_class_held l = length l.authorities.now
