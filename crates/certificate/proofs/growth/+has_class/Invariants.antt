use Rattle.std.proofs.Common.{length}
use Rattle.certificate.proofs.growth.+has_class.Given as goal

abbrev pub decreases-has_class : goal.decreases-has_class
decreases-has_class l = length l.channels.now
