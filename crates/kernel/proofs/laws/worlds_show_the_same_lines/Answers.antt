use Rattle.kernel.proofs.Determined.{same_lines}
use Rattle.kernel.proofs.laws.worlds_show_the_same_lines.Goals as goal

pub returns : goal.returns
returns c = same_lines
