use Rattle.std.proofs.lemmas.List.{map-set}
use Rattle.certificate.specs.Views.{slot_of}
use Rattle.certificate.proofs.points.put.Goals as goal

pub returns-then-number-slots : goal.returns-then-number-slots
returns-then-number-slots c = map-set slot_of c.args.slots.now c.args.kept.now.number c.args.kept.now.slot
