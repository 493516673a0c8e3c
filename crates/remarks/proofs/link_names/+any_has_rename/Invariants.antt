use Rattle.std.proofs.Common.{length}
use Rattle.remarks.proofs.link_names.+any_has_rename.Given as goal

abbrev pub decreases-any_has_rename : goal.decreases-any_has_rename
decreases-any_has_rename l = length l.programs.now
