use Rattle.rules.proofs.expansions.GrownExpansions.{expansion_grown}
use Rattle.rules.proofs.laws.the_expansion_is_what_its_lines_make.Goals as goal

pub returns : goal.returns
returns c = expansion_grown
