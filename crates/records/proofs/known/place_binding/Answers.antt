use Rattle.std.proofs.Common.{arith}
use Rattle.std.proofs.lemmas.Grind.{common_steps}
use Rattle.records.proofs.Within.{text_fits}
use Rattle.records.proofs.known.place_binding.Goals as goal

pub returns : goal.returns
returns c = grind (arith, common_steps, text_fits c.args.place.items)
