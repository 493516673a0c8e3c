use Rattle.std.proofs.Common.{length}
use Rattle.remarks.proofs.directories.+has_directory.Given as goal

abbrev pub decreases-has_directory : goal.decreases-has_directory
decreases-has_directory l = length l.descriptors.now
