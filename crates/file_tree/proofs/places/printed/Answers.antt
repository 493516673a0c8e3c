use Rattle.std.proofs.Common.{sym, arith}
use Rattle.file_tree.proofs.PlaceNames.{printed}
use Rattle.file_tree.proofs.places.printed.Goals as goal

pub returns-in_default : goal.returns-in_default
returns-in_default c = sym (printed c.args.text.now c.requires (omega arith))
