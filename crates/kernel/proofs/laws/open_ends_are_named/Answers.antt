use Rattle.kernel.proofs.Scans.{open_ends_are_named}
use Rattle.kernel.proofs.laws.open_ends_are_named.Goals as goal

pub returns : goal.returns
returns c = open_ends_are_named
