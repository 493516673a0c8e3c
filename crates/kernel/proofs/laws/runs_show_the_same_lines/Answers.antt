use Rattle.kernel.proofs.Determined.{same_lines_here}
use Rattle.kernel.proofs.laws.runs_show_the_same_lines.Goals as goal

pub returns : goal.returns
returns c = same_lines_here
