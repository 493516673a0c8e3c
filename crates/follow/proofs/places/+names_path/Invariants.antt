use Rattle.std.proofs.Common.{length}
use Rattle.follow.proofs.places.+names_path.Given as goal

abbrev pub decreases-names_path : goal.decreases-names_path
decreases-names_path l = length l.code.now
