use Rattle.std.proofs.lemmas.List.{map-set}
use Rattle.certificate.specs.Views.{bound_of, slot_of}
use Rattle.certificate.proofs.bounds.Bound.with_slot.Goals as goal

pub returns-then-number-lt16 : goal.returns-then-number-lt16
returns-then-number-lt16 c =
    let set = map-set slot_of c.args.self.now.slots c.args.number c.args.slot in
    λ i. record (bound_of c.args.self.now) { slots = set i }
