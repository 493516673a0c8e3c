use Rattle.kernel.proofs.Determined.{alike_share}
use Rattle.kernel.proofs.laws.alike_worlds_share_numbers.Goals as goal

pub returns : goal.returns
returns c = alike_share
