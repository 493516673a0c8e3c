use Rattle.std.proofs.Common.{length}
use Rattle.searcher.proofs.flat.+may_enter.Given as goal

abbrev pub decreases-may_enter : goal.decreases-may_enter
decreases-may_enter l = length l.code.now
