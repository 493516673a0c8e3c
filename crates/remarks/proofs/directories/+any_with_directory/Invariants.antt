use Rattle.std.proofs.Common.{length}
use Rattle.remarks.proofs.directories.+any_with_directory.Given as goal

abbrev pub decreases-any_with_directory : goal.decreases-any_with_directory
decreases-any_with_directory l = length l.starts.now
